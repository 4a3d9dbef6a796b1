-- Want of memory refuses no event.
use Rattle.std.proofs.Common.{◌≡◌, Bool, true, false, ◌∷◌, [], Some}
use Rattle.it_types.specs.declared.event.Event.{Event}
use Rattle.spec_lists.specs.Refusal.{first_refusal}
use Rattle.spec_world.specs.declared.refusal.WErr.TheVariants.{Ended, Stopped, Long, NoPacket, NotAdmitted, NoMemory}
use Rattle.spec_world.specs.History.{History, ends_with_stop, is_unsent, refusal, world_of}
use Rattle.spec_world.specs.Sizes.{is_full}

no_test : (a b c d e : Bool) → first_refusal ((a, Ended) ∷ (b, Stopped) ∷ (c, Long) ∷ (d, NoPacket) ∷ (e, NotAdmitted) ∷ []) ≡ Some NoMemory → ⊥
no_test true b c d e h = cc
no_test false true c d e h = cc
no_test false false true d e h = cc
no_test false false false true e h = cc
no_test false false false false true h = cc
no_test false false false false false h = cc

pub memory_refuses_not : (h : History) (event : Event) → refusal h event ≡ Some NoMemory → ⊥
memory_refuses_not h event = no_test h.ended (ends_with_stop h.log) (is_full h.log) (is_unsent (world_of h) event) _
