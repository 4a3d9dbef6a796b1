use Rattle.std.proofs.Common.{arith, sym, ◌∙◌}
use Rattle.k_sync.proofs.Apart.{apart_joined, room_for}
use Rattle.k_sync.proofs.waiters.join.Goals as goal

pub push-requires : goal.push-requires
push-requires c = (omega arith, room_for c.args.waiter.task _ c.requires.apart (c.requires.may_wait (sym c.is_poll.ensures ∙ c.if-not-is_poll.true)))

pub returns-then-not-is_poll-clause-apart : goal.returns-then-not-is_poll-clause-apart
returns-then-not-is_poll-clause-apart c = rw c.push.ensures.items (apart_joined c.args.waiter _ c.requires.apart (c.requires.may_wait (sym c.is_poll.ensures ∙ c.if-not-is_poll.true)))
