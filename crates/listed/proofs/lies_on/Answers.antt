-- `listed::lies_on` meets its contract: a page's bounds say whether a place lies on it (proofs/SamePage).
use Rattle.listed.proofs.SamePage.{page_test}
use Rattle.listed.proofs.lies_on.Goals as goal

pub returns : goal.returns
returns c = page_test _ _ _ c.requires.0 c.requires.1 c.if-place-first.false
