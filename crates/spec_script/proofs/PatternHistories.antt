-- The bytes that fill sets, checked by computation: byte 0 is 16 times the task and 128 times the node, modulo 256.
use Rattle.std.proofs.Common.{◌≡◌, refl, List, [], ◌∷◌, Option, Some}
use Rattle.it_types.specs.declared.handler.Handler.{Handler}
use Rattle.it_types.specs.declared.handler.Handler.TheVariants.{Cyc}
use Rattle.spec_script.specs.declared.decl.Line.{Line}
use Rattle.spec_script.specs.declared.decl.Line.TheVariants.{Fill, Loop, Pool}
use Rattle.spec_script.specs.declared.want.Want.TheVariants.{Finish}
use Rattle.spec_script.specs.Interpreter.{started, forward, lines_passed, rounds_passed, pattern_bytes}
use Rattle.spec_script.proofs.Answers.{code, wants_on, node, task, none_entered, begun, sends_buffer, sends, ends}

-- two bytes are sent, and then three
abbrev two_fills : List Line
two_fills = Fill 2 ∷ sends_buffer ∷ Fill 3 ∷ sends_buffer ∷ []

abbrev cyclic : Option Handler
cyclic = Some (Cyc (record { 0 = 1 }))

of_task_3 : wants_on (code 2 ∷ code 3 ∷ []) (started two_fills (node 0) (task 3) none_entered) ≡ sends (48 ∷ 49 ∷ []) ∷ sends (50 ∷ 51 ∷ 52 ∷ []) ∷ ends ∷ []
unfolding wants_on forward lines_passed rounds_passed pattern_bytes
of_task_3 = refl

of_task_16_on_node_1 : wants_on (code 2 ∷ code 3 ∷ []) (started two_fills (node 1) (task 16) none_entered) ≡ sends (128 ∷ 129 ∷ []) ∷ sends (130 ∷ 131 ∷ 132 ∷ []) ∷ ends ∷ []
unfolding wants_on forward lines_passed rounds_passed pattern_bytes
of_task_16_on_node_1 = refl

-- in a handler it is that of task 0, whichever task runs
of_handler : wants_on (code 2 ∷ code 3 ∷ []) (started two_fills (node 0) (task 3) cyclic) ≡ sends (0 ∷ 1 ∷ []) ∷ sends (2 ∷ 3 ∷ 4 ∷ []) ∷ Finish ∷ []
unfolding wants_on forward lines_passed rounds_passed pattern_bytes
of_handler = refl

of_handler_on_node_1 : wants_on (code 2 ∷ code 3 ∷ []) (started two_fills (node 1) (task 3) cyclic) ≡ sends (128 ∷ 129 ∷ []) ∷ sends (130 ∷ 131 ∷ 132 ∷ []) ∷ Finish ∷ []
unfolding wants_on forward lines_passed rounds_passed pattern_bytes
of_handler_on_node_1 = refl

-- after 255 comes 0
goes_round : wants_on [] (started (Fill 4 ∷ sends_buffer ∷ []) (node 1) (task 7) none_entered) ≡ sends (240 ∷ 241 ∷ 242 ∷ 243 ∷ []) ∷ []
unfolding wants_on forward lines_passed rounds_passed pattern_bytes
goes_round = refl

goes_round_in_a_fill : wants_on [] (started (Fill 14 ∷ Fill 4 ∷ sends_buffer ∷ []) (node 1) (task 7) none_entered) ≡ sends (254 ∷ 255 ∷ 0 ∷ 1 ∷ []) ∷ []
unfolding wants_on forward lines_passed rounds_passed pattern_bytes
goes_round_in_a_fill = refl

-- 240 and 300 bytes later it is at 540, which is 28 above twice 256
goes_round_in_a_long_fill : wants_on [] (started (Fill 300 ∷ Fill 2 ∷ sends_buffer ∷ []) (node 1) (task 7) none_entered) ≡ sends (28 ∷ 29 ∷ []) ∷ []
unfolding wants_on forward lines_passed rounds_passed pattern_bytes
goes_round_in_a_long_fill = refl

-- each fill in a loop goes on where the last ended: task 1 begins at 16
in_a_loop : wants_on (code 2 ∷ code 2 ∷ []) (begun (Loop 2 ∷ Fill 2 ∷ sends_buffer ∷ Pool ∷ [])) ≡ sends (16 ∷ 17 ∷ []) ∷ sends (18 ∷ 19 ∷ []) ∷ ends ∷ []
unfolding wants_on forward lines_passed rounds_passed pattern_bytes
in_a_loop = refl
