use Rattle.std.proofs.Common.{◌++◌}
use Rattle.it_types.specs.Kinds.{Point, Timeout}
use Rattle.it_types.specs.Fields.{field_text}
use Rattle.it_types.specs.Requests.{word_text}
use Rattle.it_types.specs.declared.calls.Word.TheVariants.{UdpSndDat}
use Rattle.spec_script.specs.Lines.{data_field, destination_field}
use Rattle.s_script.proofs.Printed.{fields_printed}
use Rattle.s_script.proofs.print.put_datagram.Goals as goal

pub returns : goal.returns
unfolding word_text
returns c =
    fields_printed c.put_payload.result c.args.out.now.items c.put_target.new.out.items c.put_payload.new.out.items (word_text UdpSndDat) (field_text Point c.args.cep) (destination_field c.args.peer c.args.dest)
    (data_field c.args.buf c.args.load.now ++ field_text Timeout c.args.tmo) c.in_ok-put_target.ensures c.put_payload.ensures
