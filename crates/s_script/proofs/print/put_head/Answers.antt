use Rattle.s_script.proofs.Printed.{head_printed}
use Rattle.s_script.proofs.print.put_head.Goals as goal

pub returns : goal.returns
returns c =
    head_printed c.put_first_node.result c.args.out.now.items c.put_word.new.out.items c.put_link.new.out.items c.put_ticks.new.out.items c.put_first_node.new.out.items c.args.s.now c.first_node.result.now
    c.in_ok-put_word.ensures.ok c.in_ok-put_link.ensures c.in_ok-put_ticks.ensures c.first_node.ensures c.put_first_node.ensures
