-- Rules 14.12 and 14.22: when each of some entries passes a test.
use Rattle.std.specs.Prelude.{Bool, true, ◌&&◌, List, [], ◌∷◌}
use Rattle.lists.specs.Alias.{Bytes}

-- is true exactly when every entry passes
unfoldable pub every_entry : (test : Bytes → Bool) → List Bytes → Bool
every_entry test [] = true
every_entry test (entry ∷ rest) = test entry && every_entry test rest
