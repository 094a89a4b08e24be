-- What a file has that was given bytes at their places, and how a board with a failed file halts.
use Rattle.std.proofs.Common.{◌≡◌, ℕ, ◌+◌, ◌*◌, ◌≤◌, List, [], ◌++◌, Option, Some, None, IfSome, Bool, true, false, not, Result, OnOk, length, drop, subst, refl, sym, ap, ◌∙◌, inr, arith}
use Rattle.std.proofs.lemmas.List.{append-nil, take_all, drop_all}
use Rattle.std.proofs.lemmas.Bool.{both_ways}
use Rattle.std.proofs.lemmas.Result.{on_ok_weaker}
use Rattle.dg_words.specs.Counts.{Rose}
use Rattle.dg_words.specs.Cells.{part, overwritten}
use Rattle.dg_words.proofs.CellLemmas.{length-part, part-overwritten_at}
use Rattle.dg_nor.specs.Sizes.{sector_size}
use Rattle.dg_nor.specs.Chip.{blank, and_each, programmed, erased}
use Rattle.dg_nor.specs.Device.{Halts}
use Rattle.dg_nor.specs.Backing.{cells_image, is_gone, is_memory, mirrored_bytes, Mirrors}
use Rattle.dg_nor.specs.declared.backing.Backing.{Backing}
use Rattle.dg_nor.specs.declared.backing.Backing.TheVariants.{Memory, Mirrored, Gone}
use Rattle.std.specs.Option.{option_map}
use Rattle.std.specs.Bool.{OnTrue}
use Rattle.dg_nor.specs.Board.{board_device}
use Rattle.dg_nor.specs.declared.board.Board.{Board}
use Rattle.dg_nor.specs.declared.backed.BackedCells.{BackedCells}
use Rattle.dg_nor.proofs.ChipLemmas.{length-blank, length-and_each}

-- ---- what was given first, and at the end

pub overwritten_none : (bs : List ℕ) → overwritten [] 0 bs ≡ bs
unfolding overwritten
overwritten_none bs = ap (λ r. bs ++ r) (drop_all (0 + length bs) [] (omega arith)) ∙ append-nil bs

pub overwritten_end : (xs : List ℕ) (at : ℕ) (bs : List ℕ) → length xs ≡ at → overwritten xs at bs ≡ xs ++ bs
unfolding overwritten
overwritten_end xs at bs n =
    ap (λ front. front ++ bs ++ drop (at + length bs) xs) (take_all at xs (omega arith))
    ∙ ap (λ rest. xs ++ bs ++ rest) (drop_all (at + length bs) xs (omega arith)) ∙ append-nil (xs ++ bs)

-- ---- a range that changed

-- the new cells of the range, over the old ones, make the new ones
same_elsewhere : (old new : List ℕ) (at n : ℕ) (bs : List ℕ) → new ≡ overwritten old at bs → length bs ≡ n → at + n ≤ length old → overwritten old at (part new at n) ≡ new
same_elsewhere old new at n bs e l h =
    ap (overwritten old at) (ap (λ xs. part xs at n) e ∙ ap (part (overwritten old at bs) at) (sym l) ∙ part-overwritten_at old at bs (omega arith)) ∙ sym e

pub programmed_elsewhere : (old new : List ℕ) (at : ℕ) (bs : List ℕ) → new ≡ programmed old at bs → at + length bs ≤ length old → overwritten old at (part new at (length bs)) ≡ new
unfolding programmed
programmed_elsewhere old new at bs e h =
    let p = length-part old at (length bs) h in
    same_elsewhere old new at (length bs) (and_each (part old at (length bs)) bs) e (length-and_each (part old at (length bs)) bs p) h

pub erased_elsewhere : (old new : List ℕ) (k : ℕ) → new ≡ erased old k → sector_size * k + sector_size ≤ length old → overwritten old (sector_size * k) (part new (sector_size * k) sector_size) ≡ new
unfolding erased
erased_elsewhere old new k e h = same_elsewhere old new (sector_size * k) sector_size (blank sector_size) e (length-blank sector_size) h

-- ---- the file of a board

pub Mirrors-told : (b : Backing) (image : List ℕ) → Mirrors b image → IfSome (mirrored_bytes b) (λ bytes. bytes ≡ image)
unfolding Mirrors
Mirrors-told b image mirrors = mirrors

pub Mirrors-from : (b : Backing) (image : List ℕ) → IfSome (mirrored_bytes b) (λ bytes. bytes ≡ image) → Mirrors b image
unfolding Mirrors
Mirrors-from b image told = told

whole_in : (o : Option (List ℕ)) (image : List ℕ) (n : ℕ) → IfSome o (λ bytes. bytes ≡ image) → length image ≡ n → IfSome o (λ bytes. length bytes ≡ n)
whole_in None image n same l = tt
whole_in (Some bytes) image n same l = ap length same ∙ l

pub Mirrors-whole : (b : Backing) (image : List ℕ) (n : ℕ) → Mirrors b image → length image ≡ n → IfSome (mirrored_bytes b) (λ bytes. length bytes ≡ n)
Mirrors-whole b image n mirrors = whole_in (mirrored_bytes b) image n (Mirrors-told b image mirrors)

-- a file that had the cells has the new ones, once the range that changed was written
after_range : (o : Option (List ℕ)) (at : ℕ) (range old new : List ℕ) → IfSome o (λ bytes. bytes ≡ old) → overwritten old at range ≡ new → IfSome (option_map (λ bytes. overwritten bytes at range) o) (λ bytes. bytes ≡ new)
after_range None at range old new same e = tt
after_range (Some bytes) at range old new same e = ap (λ xs. overwritten xs at range) same ∙ e

none_gone : (b : Backing) → is_gone b ≡ true → mirrored_bytes b ≡ None
none_gone Memory gone = absurd (both_ways false refl gone)
none_gone (Mirrored file) gone = absurd (both_ways false refl gone)
none_gone (Gone fault) gone = refl

pub mirrors_after : (before after : Backing) (saved : Bool) (at : ℕ) (range old new : List ℕ) → OnTrue saved (mirrored_bytes after ≡ option_map (λ bytes. overwritten bytes at range) (mirrored_bytes before)) → is_gone after ≡ not saved
    → Mirrors before old → overwritten old at range ≡ new → Mirrors after new
mirrors_after before after true at range old new written gone mirrors e =
    Mirrors-from after new (subst (λ o. IfSome o (λ bytes. bytes ≡ new)) (sym written) (after_range (mirrored_bytes before) at range old new (Mirrors-told before old mirrors) e))
mirrors_after before after false at range old new written gone mirrors e = Mirrors-from after new (subst (λ o. IfSome o (λ bytes. bytes ≡ new)) (sym (none_gone after gone)) tt)

-- a file that did not fail has the cells
pub has_cells : (b : Backing) (image : List ℕ) → is_gone b ≡ false → is_memory b ≡ false → IfSome (mirrored_bytes b) (λ bytes. bytes ≡ image) → mirrored_bytes b ≡ Some image
has_cells Memory image awake file same = absurd (both_ways true file refl)
has_cells (Mirrored file) image awake mirrors same = ap (λ bytes. Some bytes) same
has_cells (Gone fault) image awake file same = absurd (both_ways true awake refl)

-- the file of a board has the cells that were written, if the board ends awake and has a file
pub ended_has_cells : {E : Type 0} (r : Result (Unit {0}) E) (old made new : BackedCells) → new ≡ made → OnOk r (is_gone made.backing ≡ false) → is_memory made.backing ≡ is_memory old.backing
    → OnOk r (is_memory old.backing ≡ false → mirrored_bytes new.backing ≡ Some (cells_image new.cells))
ended_has_cells r old made new same awake memory =
    on_ok_weaker r (λ gone file. subst (λ b. mirrored_bytes b.backing ≡ Some (cells_image b.cells)) (sym same) (has_cells made.backing (cells_image made.cells) gone (memory ∙ file) (Mirrors-told made.backing (cells_image made.cells) made.mirrored))) awake

-- ---- a board whose file failed

pub Halts-gone : (old new : Board) → is_gone old.backed.backing ≡ false → is_gone new.backed.backing ≡ true → Rose old.faults new.faults → old.faults ≤ new.faults → Halts 1 0 (board_device old) (board_device new)
Halts-gone old new awake gone rose faults = record {
  within = omega arith;
  left = refl;
  stopped = gone;
  cause = inr rose;
  unchanged = λ was. absurd (both_ways (is_gone old.backed.backing) awake was);
  fired = λ blown. absurd (both_ways false refl blown);
  blown = λ blown. absurd (both_ways false refl blown);
  faults = faults;
  taken = refl;
  references = refl;
  beneath = refl;
}
