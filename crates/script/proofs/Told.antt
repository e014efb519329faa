-- What a record tells, from the promise of the call that it makes.
use Prim.Native.Nat.{ℕ, ◌-◌, ◌≤◌, ◌<◌}
use mathlib.Core.Path.{◌≡◌, refl, ◌∙◌, ap}
use mathlib.Core.List.{List, []}
use native.Mathlib.Omega.{arith}
use borrow.Author.Tests.{lt-ltb, le-ltb, ne_eqb}
use native.Mathlib.Nat.{sub-zero}
use lib.ListN.{length, get_or, take, drop, replicate}
use Rattle.std.proofs.Common.{length-take-le}
use Rattle.laws.proofs.Bytes.{num_one}
use Rattle.std.specs.Prelude.{Result, Ok, Err}
use Rattle.paper.specs.declared.Refusal.{Refusal}
use Rattle.paper.specs.Answers.{Answer, Done, Refused, no_of, answered, plain}
use Rattle.paper.specs.Geometry.{bench}
use Rattle.paper.specs.Calls.{Call, load, store, size}
use Rattle.paper.specs.Outcomes.{State, lent, gives, outcome}
use Rattle.rules.proofs.Outcomes.{size_any_index}
use Rattle.paper.specs.Script.{record_bytes, operation_in, region_in, length_in, number_in, operations, tells, sum_of, answer_of, called, most_length, odd, short, among, told}
use Rattle.script.specs.declared.Operation.{Operation}
use Rattle.script.specs.declared.Operation.TheVariants.{Open, Grow, Store, Load, Release, Size, Recover}
use Rattle.script.specs.declared.Record.{Record}
use Rattle.script.specs.Operations.{operation_no}
use Rattle.script.specs.Asked.{makes, call_of}

-- the call kept its promise
pub call_kept : (c : Call) (a : Answer) (bytes : List ℕ) (s t : State) → gives a bytes s ≡ outcome bench c t → tells (answer_of c (gives a bytes s)) s ≡ called c t
unfolding called
call_kept c a bytes s t e = ap (λ o. tells (answer_of c o) o.state) e

-- a load that is refused, and one that is done and has n for the sum of its bytes
module _ (r d o : ℕ) (buffer bytes : List ℕ) (q : Result (Unit {0}) Refusal) (s : State) (kept : gives (answered plain q) bytes s ≡ outcome bench (load r d o buffer) s) where
  pub load_refused : (k : Refusal) → q ≡ Err k → tells (Refused (no_of k)) s ≡ called (load r d o buffer) s
  load_refused k e = call_kept (load r d o buffer) (Refused (no_of k)) bytes s s (rw e at kept)

  pub load_done : (n : ℕ) → q ≡ Ok tt → n ≡ sum_of bytes → tells (Done n) s ≡ called (load r d o buffer) s
  load_done n e f = rw f (call_kept (load r d o buffer) (Done 0) bytes s s (rw e at kept))

-- so many bytes of a buffer that has them are so many
pub part_length : (n : ℕ) (xs : List ℕ) → n ≤ length xs → length (take (n - 0) (drop 0 xs)) ≡ n
part_length n xs h = rw sub-zero (length-take-le n xs h)

-- a store of a fill byte, by way of equal numbers
pub store_same : {r t o p m n b d : ℕ} (s : State) → r ≡ t → o ≡ p → m ≡ n → b ≡ d
    → called (store r 0 o (replicate m b)) s ≡ called (store t 0 p (replicate n d)) s
store_same s e f g h = cc

-- size takes no index, and leaves the one that there is
pub size_kept : (r d : ℕ) (a : Answer) (image index : List ℕ)
    → gives a [] (lent image []) ≡ outcome bench (size r d) (lent image []) → tells a (lent image index) ≡ called (size r d) (lent image index)
size_kept r d a image index e = call_kept (size r d) a [] (lent image index) (lent image index) (size_any_index bench image [] index r d a e)

-- ---- a record
module _ (r : List ℕ) (s : State) where
  pub told_short : length r < record_bytes → told r s ≡ short s
  unfolding told
  told_short l = rw (lt-ltb (length r) record_bytes l)

  pub told_long : record_bytes ≤ length r → most_length < length_in r → told r s ≡ odd s
  unfolding told
  told_long h l = rw (le-ltb (length r) record_bytes h, lt-ltb most_length (length_in r) l)

  pub told_whole : record_bytes ≤ length r → length_in r ≤ most_length → told r s ≡ among (operations r) (operation_in r) s
  unfolding told
  told_whole h l = rw (le-ltb (length r) record_bytes h, le-ltb most_length (length_in r) l)

  pub none_known : (k : ℕ) → (1 ≤ k → 7 < k) → among (operations r) k s ≡ odd s
  unfolding among
  none_known k n =
      rw (ne_eqb k 1 (λ e. omega (arith, n)), ne_eqb k 2 (λ e. omega (arith, n)), ne_eqb k 3 (λ e. omega (arith, n)), ne_eqb k 4 (λ e. omega (arith, n)), ne_eqb k 5 (λ e. omega (arith, n)), ne_eqb k 6 (λ e. omega (arith, n)), ne_eqb k 7 (λ e. omega (arith, n)))

  -- its first byte is the operation's number
  pub told_odd : record_bytes ≤ length r → length_in r ≤ most_length → (1 ≤ get_or r 0 0 → 7 < get_or r 0 0) → told r s ≡ odd s
  told_odd h l n = told_whole h l ∙ rw (num_one r 0) (none_known (get_or r 0 0) n)

  -- the fields that a record is read from
  pub record Fields (x : Record) : Type 0 where
    pub operation : operation_no x.operation ≡ get_or r 0 0
    pub fill : x.fill ≡ get_or r 1 0
    pub region : x.book.region.0 ≡ region_in r
    pub edition : x.book.edition.0 ≡ 0
    pub length : x.length ≡ length_in r
    pub number : x.number ≡ number_in r

  pub told_call : (x : Record) → record_bytes ≤ length r → Fields x → told r s ≡ called (call_of x) s
  unfolding among
  told_call x h f = told_whole h (omega arith) ∙ rw (num_one r 0, ← f.operation) (go x.operation)
    where
      go : (o : Operation) → among (operations r) (operation_no o) s ≡ called (makes o x) s
      go Open = refl
      go Grow = rw (f.region, f.edition, f.number)
      go Store = rw (f.region, f.edition, f.number, f.length, f.fill, num_one r 1)
      go Load = rw (f.region, f.edition, f.number, f.length)
      go Release = rw (f.region, f.edition)
      go Size = rw (f.region, f.edition)
      go Recover = refl
