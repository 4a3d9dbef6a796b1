use Rattle.std.proofs.Common.{rules}
use Rattle.spec_link.specs.Link.{sent}
use Rattle.w_link.proofs.link.Link.sent.Goals as goal

pub returns-in-Lost : goal.returns-in-Lost
unfolding sent
returns-in-Lost c = rw (← c.self.view_is) (rw (← c.in-Lost.ensures.fate) (search rules))

pub returns-in-Once : goal.returns-in-Once
unfolding sent
returns-in-Once c = rw (← c.self.view_is) (rw (← c.in-Once.ensures.fate) (search rules))

pub returns-in_ok-add-in-Twice : goal.returns-in_ok-add-in-Twice
unfolding sent
returns-in_ok-add-in-Twice c = rw (← c.self.view_is) (rw (← c.in-Twice.ensures.fate) (search rules))
