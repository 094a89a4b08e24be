use Rattle.std.proofs.Common.{◌≡◌, ◌++◌, ◌∷◌, [], List, ℕ, take, refl, ap, sym, ◌∙◌, map, length, ◌<◌, ◌+◌, subst}
use Rattle.std.specs.List.{AllByRecursion, flat_map}
use Rattle.std.proofs.lemmas.List.{map-append, flat_map_more, take_more}
use Rattle.std.specs.Prelude.{slice_index}
use Rattle.dg_cost_text.specs.Timed.{Stamped, stamped, IsStamp, stamped_text, reported_byte, IsStampedReport}

pub all_more : (xs : List Stamped) (s : Stamped) → AllByRecursion IsStamp xs → IsStamp s → AllByRecursion IsStamp (xs ++ s ∷ [])
all_more [] s all is = (is, tt)
all_more (x ∷ xs) s all is = (all.0, all_more xs s all.1 is)

pub timed_none : IsStampedReport [] []
timed_none = record { bytes = []; stamps = tt; report_is = refl; text_is = refl }

-- one more byte
pub timed_more : (report text : List ℕ) (s : Stamped) → IsStampedReport report text → IsStamp s
    → IsStampedReport (report ++ reported_byte s ∷ []) (text ++ stamped_text s)
timed_more report text s x is = record {
  bytes = x.bytes ++ s ∷ [];
  stamps = all_more x.bytes s x.stamps is;
  report_is = map-append reported_byte x.bytes (s ∷ []) ∙ ap (λ (r : List ℕ). r ++ reported_byte s ∷ []) x.report_is;
  text_is = ap (λ (t : List ℕ). t ++ stamped_text s) x.text_is ∙ flat_map_more stamped_text [] x.bytes s;
}
