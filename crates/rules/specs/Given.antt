-- The regions that were given out: those below C. In tables that keep rule a no other is open.
use Rattle.std.specs.Prelude.{ℕ, ◌≤◌, ◌<◌, min, false, ◌≡◌, List}
use Rattle.paper.specs.declared.Geometry.{Geometry}
use Rattle.paper.specs.Image.{counter, is_open}

module _ (g : Geometry) (t : List ℕ) where
  -- C, or E where C is past the table
  abbrev pub given : ℕ
  given = min (counter g t) g.entries

  -- rule a's second sentence
  abbrev pub High : Type 0
  High = (r : ℕ) → counter g t ≤ r → r < g.entries → is_open g t r ≡ false
