-- Rules 3.10, 3.12: where a page stands in the image, and which pages a link may name.
use Rattle.std.specs.Prelude.{Bool, ◌&&◌, ℕ, ◌+◌, ◌*◌, leb, ltb}
use Rattle.format.specs.declared.Page.{Page}

-- Rule 3.10.
abbrev pub page_bounds : (number size : ℕ) → Page
page_bounds number size = record { number = number; start = number * size; end = number * size + size }

-- Rule 3.12: from 1 to P-1.
unfoldable pub linkable : (page_count page : ℕ) → Bool
linkable page_count page = leb 1 page && ltb page page_count
