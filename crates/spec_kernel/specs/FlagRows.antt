-- The calls on event flags (µITRON4.0 section 4.4.2), but for the test of the context in which each is made: the first refusal
-- that holds, or what is told at once, or that the task must wait.
use Rattle.std.specs.Prelude.{ℕ, Bool, not, ◌&&◌, ◌||◌, ◌==◌, List, [], ◌∷◌, Option, Some, None, if◌then◌else◌}
use Rattle.std.specs.List.{list_any}
use Rattle.it_types.specs.declared.id.TaskId.{TaskId}
use Rattle.it_types.specs.declared.id.ObjId.{ObjId}
use Rattle.it_types.specs.declared.er.Er.{Er}
use Rattle.it_types.specs.declared.er.TheConstants.{E_OK, E_PAR, E_ILUSE}
use Rattle.it_types.specs.declared.timeout.Tmo.{Tmo}
use Rattle.it_types.specs.declared.synced.Synced.{Synced}
use Rattle.it_types.specs.declared.synced.Synced.TheVariants.{Took, MustWait, Refused}
use Rattle.it_types.specs.Callers.{is_nblk}
use Rattle.spec_lists.specs.Tables.{get, change}
use Rattle.spec_lists.specs.Refusal.{first_refusal}
use Rattle.spec_kernel.specs.declared.reason.FlagWait.{FlagWait}
use Rattle.spec_kernel.specs.declared.reason.WaitReason.{WaitReason}
use Rattle.spec_kernel.specs.declared.reason.WaitReason.TheVariants as reasons
use Rattle.spec_kernel.specs.declared.waiter.Waiter.{Waiter}
use Rattle.spec_kernel.specs.Waiters.{is_in, joined_by}
use Rattle.spec_kernel.specs.Waiting.{flags_after}
use Rattle.spec_kernel.specs.ObjectRows.{at_object, urgency_in}
use Rattle.spec_kernel.specs.FlagBlocks.{takes_many, with_bits, only_bits}
use Rattle.spec_kernel.specs.PlainFlags.{PlainFlags, is_met, is_by_priority, bytes_of}

-- what a call comes to, and the flags after it
pub record FlagsDone : Type 0 where
  pub flags : PlainFlags
  pub synced : Synced

abbrev pub took : PlainFlags → List ℕ → FlagsDone
took d bytes = record { flags = d; synced = Took E_OK bytes }

abbrev pub unless_refused : Option Er → PlainFlags → FlagsDone → FlagsDone
unless_refused (Some code) d done = record { flags = d; synced = Refused code }
unless_refused None d done = done

-- a call with these refusals, which comes to this where none holds
abbrev pub refused_or : List (Bool × Er) → PlainFlags → FlagsDone → FlagsDone
refused_or tests d done = unless_refused (first_refusal tests) d done

-- ---- bits are set; the tasks that this meets get their pattern by their own ends

abbrev pub set_flg_refusals : PlainFlags → ObjId → List (Bool × Er)
set_flg_refusals d f = at_object d.flags f []

abbrev pub set_flg : PlainFlags → ObjId → ℕ → FlagsDone
set_flg d f bits = refused_or (set_flg_refusals d f) d (took (record d { flags = change d.flags f.0 (with_bits bits) }) [])

-- ---- no other bits than these are left

abbrev pub clr_flg : PlainFlags → ObjId → ℕ → FlagsDone
clr_flg d f bits = refused_or (set_flg_refusals d f) d (took (record d { flags = change d.flags f.0 (only_bits bits) }) [])

-- ---- a pattern is told where the condition holds

-- a second task can't ask where the flag takes one alone
abbrev pub is_occupied : PlainFlags → FlagWait → Bool
is_occupied d w = not (takes_many (get d.flags w.flag.0)) && list_any (is_in (reasons.Flag w)) d.waiters

abbrev pub twai_flg_refusals : PlainFlags → FlagWait → Tmo → List (Bool × Er)
twai_flg_refusals d w tmo = at_object d.flags w.flag ((is_nblk tmo || (w.bits == 0), E_PAR) ∷ (is_occupied d w, E_ILUSE) ∷ [])

abbrev pub met : PlainFlags → WaitReason → FlagsDone
met d reason = took (record d { flags = flags_after reason d.flags }) (bytes_of d.flags reason)

abbrev pub waiter_for : PlainFlags → WaitReason → TaskId → ℕ → ℕ → Waiter
waiter_for d reason task pri rank = record { task = task; reason = reason; urgency = urgency_in (is_by_priority d.flags reason) pri; rank = rank }

-- the task joins the queue, but for a poll
abbrev pub waiting : PlainFlags → Waiter → Tmo → FlagsDone
waiting d w tmo = record { flags = record d { waiters = joined_by w tmo d.waiters }; synced = MustWait }

abbrev pub asked : PlainFlags → WaitReason → Tmo → TaskId → ℕ → ℕ → FlagsDone
asked d reason tmo task pri rank = if is_met d.flags reason then met d reason else waiting d (waiter_for d reason task pri rank) tmo

abbrev pub asked_for : PlainFlags → FlagWait → Tmo → TaskId → ℕ → ℕ → FlagsDone
asked_for d w tmo task pri rank = refused_or (twai_flg_refusals d w tmo) d (asked d (reasons.Flag w) tmo task pri rank)

abbrev pub twai_flg : PlainFlags → ObjId → ℕ → Bool → Tmo → TaskId → ℕ → ℕ → FlagsDone
twai_flg d f bits all tmo task pri rank = asked_for d (record { flag = f; bits = bits; all = all }) tmo task pri rank
