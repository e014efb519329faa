-- What a Result says of the image and the index that it gives back together.
use Rattle.std.specs.Prelude.{ℕ, ◌≡◌, List}
use Rattle.paper.specs.declared.Geometry.{Geometry}
use Rattle.image.specs.Views.{IsImage}
use Rattle.index.specs.declared.Lent.{Lent}

-- both are this geometry's, with these bytes
pub record IsLent (g : Geometry) (image index : List ℕ) (l : Lent) : Type 0 where
  pub of_image : IsImage g image l.image
  pub geometry : l.index.g ≡ g
  pub of_index : l.index.bytes.now ≡ index
