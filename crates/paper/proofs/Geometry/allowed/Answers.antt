-- `Geometry::allowed` meets its contract: each early return by the fact that its test denies.
use Rattle.std.proofs.Common.{sym, arith}
use Rattle.paper.specs.Geometry.{block_bytes}
use Rattle.paper.proofs.Arithmetic.{facts_allowed, not_allowed}
use Rattle.paper.proofs.Geometry.allowed.Goals as goal

pub returns-then-self-lt1 : goal.returns-then-self-lt1
returns-then-self-lt1 c = sym (not_allowed _ (λ a. omega arith))

pub returns-then-self-gt-MOST_PAGE : goal.returns-then-self-gt-MOST_PAGE
returns-then-self-gt-MOST_PAGE c = sym (not_allowed _ (λ a. omega arith))

pub returns-then-self-lt1-2 : goal.returns-then-self-lt1-2
returns-then-self-lt1-2 c = sym (not_allowed _ (λ a. omega arith))

pub returns-then-self-gt-MOST_PAGES : goal.returns-then-self-gt-MOST_PAGES
returns-then-self-gt-MOST_PAGES c = sym (not_allowed _ (λ a. omega arith))

pub returns-then-self-lt1-3 : goal.returns-then-self-lt1-3
returns-then-self-lt1-3 c = sym (not_allowed _ (λ a. omega arith))

pub returns-then-self-gt-MOST_BLOCKS : goal.returns-then-self-gt-MOST_BLOCKS
returns-then-self-gt-MOST_BLOCKS c = sym (not_allowed _ (λ a. omega arith))

pub returns-then-self-lt-LEAST_ENTRIES : goal.returns-then-self-lt-LEAST_ENTRIES
returns-then-self-lt-LEAST_ENTRIES c = sym (not_allowed _ (λ a. omega arith))

pub returns-then-self-gt-MOST_ENTRIES : goal.returns-then-self-gt-MOST_ENTRIES
returns-then-self-gt-MOST_ENTRIES c = sym (not_allowed _ (λ a. omega arith))

pub returns-then-self : goal.returns-then-self
unfolding block_bytes
returns-then-self c = sym (not_allowed _ (λ a. omega arith))

pub returns : goal.returns
unfolding block_bytes
returns c =
    sym
    (facts_allowed _
    (record {
      page_least = omega arith;
      page_most = omega arith;
      pages_least = omega arith;
      pages_most = omega arith;
      blocks_least = omega arith;
      blocks_most = omega arith;
      entries_least = omega arith;
      entries_most = omega arith;
      reserve = omega arith;
    }))
