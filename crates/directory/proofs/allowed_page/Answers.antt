-- `directory::allowed_page` meets its contract: the tests that led to each return choose the value of `allowed_page`.
use borrow.Author.Rules.{rules}
use Rattle.directory.specs.Header.{allowed_page}
use Rattle.lists.proofs.Choice.{tests}
use Rattle.directory.proofs.allowed_page.Goals as goal
use Rattle.directory.proofs.allowed_page.Goals.{then-block-size, else-block-size, then-size-le32768, else-size-le32768}

pub returns-then-size-block-eq0 : goal.returns-then-size-block-eq0
unfolding allowed_page
returns-then-size-block-eq0 c =
    elim c.if-size-le32768.branch [
      | then-size-le32768 w ↦ elim c.if-block-size.branch [ then-block-size v ↦ search (tests, rules) | else-block-size v ↦ search (tests, rules) ]
      | else-size-le32768 w ↦ elim c.if-block-size.branch [ then-block-size v ↦ search (tests, rules) | else-block-size v ↦ search (tests, rules) ]
    ]

pub returns-else-size-block-eq0 : goal.returns-else-size-block-eq0
unfolding allowed_page
returns-else-size-block-eq0 c =
    elim c.if-size-le32768.branch [
      | then-size-le32768 w ↦ elim c.if-block-size.branch [ then-block-size v ↦ search (tests, rules) | else-block-size v ↦ search (tests, rules) ]
      | else-size-le32768 w ↦ elim c.if-block-size.branch [ then-block-size v ↦ search (tests, rules) | else-block-size v ↦ search (tests, rules) ]
    ]
