use Rattle.it_types.specs.Kinds.{Point}
use Rattle.it_types.specs.Fields.{field_text}
use Rattle.it_types.specs.Requests.{word_text}
use Rattle.it_types.specs.declared.calls.Word.TheVariants.{TcpSndBuf}
use Rattle.spec_script.specs.Lines.{data_field}
use Rattle.s_script.proofs.Printed.{field_printed}
use Rattle.s_script.proofs.print.put_hand_over.Goals as goal

pub returns : goal.returns
unfolding word_text
returns c =
    field_printed c.put_data.result c.args.out.now.items c.put_point.new.out.items c.put_data.new.out.items (word_text TcpSndBuf) (field_text Point c.args.cep) (data_field c.args.buf c.args.load.now)
    c.in_ok-put_point.ensures c.put_data.ensures
