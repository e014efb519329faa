-- The script's example and samples of its lines, by computation.
use Prim.Native.Nat.{ℕ}
use mathlib.Core.Path.{◌≡◌, refl}
use mathlib.Core.List.{List, [], ◌∷◌, ◌++◌}
use lib.IntN.{pos}
use Rattle.laws.specs.Folds.{all_below, sum_below, first_from, list_from, join_below, steps}
use Rattle.laws.specs.Bytes.{value, num, le, splice, pack, same}
use Rattle.paper.specs.Geometry.{block_bytes, allowed, need, capacity}
use Rattle.paper.specs.Image.{coded, decoded, size_width, version_of, stamped, taken, counter, owner, place, size_of, edition_of, is_open, need_of, block_of, set_taken, set_counter, set_entry, set_size, set_edition, set_pages, set_not_open, written_header, entry_row, size_row, written}
use Rattle.paper.specs.WellFormed.{editions_right, rule_a, rule_b, rule_c, rule_d, rule_e, in_order}
use Rattle.paper.specs.Index.{index_numbers, index_of, empty_index}
use Rattle.paper.specs.Calls.{laid_size, laid, lowest_openable, next_region, opened, loaded, stored, moved, granted_new, granted, grown_front, grown, released}
use Rattle.paper.specs.Refusals.{first, header_right, right_at, touched, touched_right, usable, blank, unused_blank, checks}
use Rattle.paper.specs.Outcomes.{accepted, outcome}
use Rattle.paper.specs.Script.{Line, script_start, sum_of, called, among, told, lines}

-- a record of 16 bytes
abbrev step : (operation fill region length number : ℕ) → List ℕ
step operation fill region length number = operation ∷ fill ∷ (le 2 region ++ le 4 length ++ le 8 number)

abbrev line : ℕ → ℕ → Line
line k v = record { number = k; value = pos v }

-- open, then grow region 16 by 8, prints in full; and a script with every operation, the odd lines and a short last record
pub script_lines :
    (lines (step 1 0 0 0 0 ∷ step 2 0 16 0 8 ∷ []) script_start ≡ line 0 16 ∷ line 0 0 ∷ [])
    × (lines
    (step 1 0 0 4096 0
    ∷ step 1 0 0 4097 0
    ∷ step 0 0 0 0 0
    ∷ step 8 0 0 0 0
    ∷ step 2 0 16 0 9
    ∷ step 3 7 16 4 510
    ∷ step 4 0 16 4 510
    ∷ step 4 0 16 6 509
    ∷ step 4 0 16 4 573
    ∷ step 6 0 16 0 0
    ∷ step 7 0 0 0 0
    ∷ step 5 0 16 0 0
    ∷ step 6 0 16 0 0
    ∷ (1 ∷ 0 ∷ [])
    ∷ [])
    script_start
    ≡ line 0 16
    ∷ line 99 0
    ∷ line 99 0
    ∷ line 99 0
    ∷ line 0 0
    ∷ line 0 0
    ∷ line 0 28
    ∷ line 0 28
    ∷ line 9 0
    ∷ line 0 9
    ∷ line 0 0
    ∷ line 0 0
    ∷ line 8 0
    ∷ line 98 0
    ∷ [])
unfolding lines told among called sum_of all_below sum_below first_from list_from join_below steps value num le splice pack same block_bytes allowed need capacity coded decoded size_width version_of stamped taken counter owner place size_of edition_of is_open need_of block_of set_taken set_counter set_entry set_size set_edition set_pages set_not_open written_header entry_row size_row written editions_right rule_a rule_b rule_c rule_d rule_e in_order index_numbers index_of empty_index laid_size laid lowest_openable next_region opened loaded stored moved granted_new granted grown_front grown released first header_right right_at touched touched_right usable blank unused_blank checks accepted outcome
script_lines = (refl, refl)
