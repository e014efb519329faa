-- What the bytes of the version's width say.
use mathlib.Core.Path.{◌≡◌, sym, ◌∙◌, ap}
use Rattle.laws.specs.Bytes.{num}
use Rattle.paper.specs.Geometry.{half_bytes, size_bytes}
use Rattle.paper.specs.Image.{version_of, size_of, decoded}
use Rattle.rules.proofs.Cells.{version3_width, version2_width}
use Rattle.rules.proofs.Fronts.{size_read, size_open, size_not_open}
use Rattle.image.specs.Views.{front_of}
use Rattle.image.proofs.Image.size_by.Goals as goal
use Rattle.image.proofs.Image.size_by.Goals.{After-read-n, After-read-n-2}

-- version 3: what the low half says
low : (c : After-read-n) → let i = c.args.self.now in size_of i.g (front_of i) c.args.r.0 ≡ decoded half_bytes c.read-n.result
low c =
    let i = c.args.self.now in
    size_read i.g i.bytes.now c.args.r.0 c.requires.r_lt_entries half_bytes (version3_width (version_of i.g (front_of i)) (sym c.requires.version ∙ c.if-version_3.true))
    ∙ ap (decoded half_bytes) (sym (c.read-n.ensures ∙ ap (num half_bytes i.bytes.now) c.size_at-at.ensures))

-- version 2: what the whole entry says
whole : (c : After-read-n-2) → let i = c.args.self.now in size_of i.g (front_of i) c.args.r.0 ≡ decoded size_bytes c.read-n-2.result
whole c =
    let i = c.args.self.now in
    size_read i.g i.bytes.now c.args.r.0 c.requires.r_lt_entries size_bytes (version2_width (version_of i.g (front_of i)) (sym c.requires.version ∙ c.if-version_3.false))
    ∙ ap (decoded size_bytes) (sym (c.read-n-2.ensures ∙ ap (num size_bytes i.bytes.now) c.size_at-at.ensures))

pub returns-then-n : goal.returns-then-n
returns-then-n c =
    let i = c.args.self.now in
    size_not_open i.g i.bytes.now c.args.r.0 c.requires.r_lt_entries half_bytes c.read-n.result (low (goal.at.returns-then-n c).After-read-n) c.if-n.true

pub returns-else-n : goal.returns-else-n
returns-else-n c =
    let i = c.args.self.now in
    size_open i.g i.bytes.now c.args.r.0 c.requires.r_lt_entries half_bytes c.read-n.result (low (goal.at.returns-else-n c).After-read-n) c.if-n.false

pub returns-then-n-2 : goal.returns-then-n-2
returns-then-n-2 c =
    let i = c.args.self.now in
    size_not_open i.g i.bytes.now c.args.r.0 c.requires.r_lt_entries size_bytes c.read-n-2.result (whole (goal.at.returns-then-n-2 c).After-read-n-2) c.if-n-2.true

pub returns-else-n-2 : goal.returns-else-n-2
returns-else-n-2 c =
    let i = c.args.self.now in
    size_open i.g i.bytes.now c.args.r.0 c.requires.r_lt_entries size_bytes c.read-n-2.result (whole (goal.at.returns-else-n-2 c).After-read-n-2) c.if-n-2.false
