-- What is seen of an image's bytes, and what a Result says of the image that it gives back.
use Rattle.std.specs.Prelude.{ℕ, ◌≡◌, List}
use Rattle.paper.specs.declared.Geometry.{Geometry}
use Rattle.paper.specs.Image.{front}
use Rattle.image.specs.declared.Image.{Image}

-- header and tables
abbrev pub front_of : Image → List ℕ
front_of i = front i.g i.bytes.now

-- the image is this geometry's, with these bytes
pub record IsImage (g : Geometry) (bytes : List ℕ) (i : Image) : Type 0 where
  pub geometry : i.g ≡ g
  pub lent : i.bytes.now ≡ bytes
