-- The beginnings that lines of "Order of checks" share, each as the number that it answers: that of its first check that refuses, or 0.
use Rattle.std.specs.Prelude.{ℕ, List, [], ◌∷◌}
use Rattle.paper.specs.declared.Geometry.{Geometry}
use Rattle.paper.specs.Refusals.{first, no1, no2, no3, no4, no5, to4, to5, to7, naming, of_book, reading}

-- ---- without an index, as size asks
module _ (g : Geometry) (image : List ℕ) where
  -- 1, 3, 4
  unfoldable pub head_no : ℕ
  head_no = first (no1 g image [] ∷ no3 g image [] ∷ no4 g image [] ∷ [])

  -- 1, 3, 4, 5
  unfoldable pub whole_no : ℕ
  whole_no = first (no1 g image [] ∷ no3 g image [] ∷ no4 g image [] ∷ no5 g image [] ∷ [])

  -- 8 and 18, of one book
  unfoldable pub name_no : ℕ → ℕ → ℕ
  name_no r e = first (naming g image [] r e [])

  -- and 6
  unfoldable pub book_no : ℕ → ℕ → ℕ
  book_no r e = first (of_book g image [] r e [])

-- ---- with one
module _ (g : Geometry) (image index : List ℕ) where
  -- 1, 2, 3
  unfoldable pub lent_no : ℕ
  lent_no = first (no1 g image index ∷ no2 g image index ∷ no3 g image index ∷ [])

  -- 1 to 4
  unfoldable pub indexed_head_no : ℕ
  indexed_head_no = first (to4 g image index [])

  -- 1 to 5
  unfoldable pub entered_no : ℕ
  entered_no = first (to5 g image index [])

  -- 1 to 7
  unfoldable pub ordered_no : ℕ
  ordered_no = first (to7 g image index [])

  -- the whole line of load, store and look, for n bytes at offset o of region r
  unfoldable pub read_no : ℕ → ℕ → ℕ → ℕ → ℕ
  read_no r e o n = first (reading g image index r e o n)
