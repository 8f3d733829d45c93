-- `bitmap::ones` meets its contract: the sum of the words' ones is `ones_in` (proofs/HeldCount).
use mathlib.Core.Path.{◌≡◌, sym, ◌∙◌}
use Rattle.std.proofs.Common.{rules}
use Rattle.std.specs.List.{sum_by}
use lib.Count.{ones}
use Rattle.bitmap.proofs.HeldCount.{ones_sum}
use Rattle.bitmap.proofs.ones.Goals as goal

pub returns : goal.returns
returns c =
    let all : c.sum.result ≡ sum_by ones c.args.words.now = search rules in
    all ∙ sym (ones_sum c.args.words.now)
