use Rattle.s_script.proofs.Printed.{printed}
use Rattle.s_script.proofs.print.put_script.Goals as goal

pub returns : goal.returns
returns c =
    printed c.put_last_lines.result c.args.out.now.items c.put_head.new.out.items c.put_declarations.new.out.items c.put_last_lines.new.out.items c.args.s.now c.first_node.result.now c.second_node.result.now c.as_slice.result.now
    c.in_ok-put_head.ensures c.first_node.ensures c.as_slice.ensures c.in_ok-put_declarations.ensures c.second_node.ensures c.put_last_lines.ensures
