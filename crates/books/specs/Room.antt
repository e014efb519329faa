-- Refusal 10 does not apply: the new blocks do not exceed region 1's blocks plus K - N.
use Rattle.std.specs.Prelude.{ℕ, ◌+◌, ◌-◌, ◌≤◌, Bool, true, ◌≡◌, List, leb, length}
use Rattle.paper.specs.declared.Geometry.{Geometry}
use Rattle.paper.specs.Geometry.{reclaimed, capacity}
use Rattle.paper.specs.Image.{front, taken, need_of}
use Rattle.paper.specs.Calls.{new_blocks}
use Rattle.paper.specs.Refusals.{usable}
use Rattle.rules.specs.Facts.{Ordered}

abbrev pub available : Geometry → List ℕ → ℕ
available g image = need_of g (front g image) reclaimed + (capacity g (length image) - taken g (front g image))

abbrev pub has_room : Geometry → List ℕ → ℕ → ℕ → Bool
has_room g image r n = leb (new_blocks g r n (front g image)) (available g image)

-- a book that may have n pages more
pub record Growing (g : Geometry) (image index : List ℕ) (r n : ℕ) : Type 0 where
  pub ordered : Ordered g image index
  pub usable : usable g (front g image) r ≡ true
  pub room : new_blocks g r n (front g image) ≤ available g image
