-- What a stream yields, it yields whatever follows.
use Rattle.std.proofs.Common.{◌≡◌, ℕ, List, [], ◌∷◌, ◌++◌, refl, ap, ◌∙◌, append_assoc}
use Rattle.std.specs.List.{flat_map, AllByRecursion}
use Rattle.std.proofs.lemmas.List.Concat.{flat_map-append}
use Rattle.dg_serial.specs.Sizes.{flag_byte}
use Rattle.dg_serial.specs.Line.{FlagSplit, flag_split, flag_pieces, rest_after_flags, HasNoFlag, flagged, SerialItem, item_of, items}
use Rattle.dg_serial.proofs.CutLemmas.{cut_piece, is_cut}

-- pieces that are ended stay pieces
cut_front : (pieces : List (List ℕ)) (more : List ℕ) → AllByRecursion HasNoFlag pieces → flag_split (flagged pieces ++ more) ≡ record { pieces = pieces ++ flag_pieces more; rest = rest_after_flags more }
cut_front [] more h = refl
cut_front (piece ∷ pieces) more h =
    let rest : List ℕ = flagged pieces ++ more in
    let same : ((piece ++ flag_byte ∷ []) ++ flagged pieces) ++ more ≡ piece ++ flag_byte ∷ rest =
    append_assoc (piece ++ flag_byte ∷ []) (flagged pieces) more ∙ append_assoc piece (flag_byte ∷ []) rest in
    ap flag_split same ∙ cut_piece piece rest h.0
    ∙ ap (λ (c : FlagSplit). record { pieces = piece ∷ c.pieces; rest = c.rest }) (cut_front pieces more h.1)

pub front_stays : (stream more : List ℕ) → (later : List SerialItem) × (items (stream ++ more) ≡ items stream ++ later)
unfolding items
front_stays stream more =
    let cut = is_cut stream in
    let tail : List ℕ = rest_after_flags stream ++ more in
    let same : stream ++ more ≡ flagged (flag_pieces stream) ++ tail =
    ap (λ (xs : List ℕ). xs ++ more) cut.whole ∙ append_assoc (flagged (flag_pieces stream)) (rest_after_flags stream) more in (
      flat_map item_of (flag_pieces tail),
      ap (λ (xs : List ℕ). flat_map item_of (flag_pieces xs)) same
          ∙ ap (λ (c : FlagSplit). flat_map item_of c.pieces) (cut_front (flag_pieces stream) tail cut.pieces)
          ∙ flat_map-append item_of (flag_pieces stream) (flag_pieces tail),
    )
