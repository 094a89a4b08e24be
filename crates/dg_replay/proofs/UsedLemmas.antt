-- What is used of the bytes that were taken, if no line ends after the lines that were played.
use Rattle.std.proofs.Common.{◌≡◌, ◌≢◌, ℕ, ◌+◌, ◌-◌, ◌<◌, ◌≤◌, Bool, false, List, [], ◌∷◌, ◌++◌, length, take, append-nil, refl, ap, sym, ◌∙◌, arith}
use Rattle.std.specs.Prelude.{if◌then◌else◌, Option}
use Rattle.std.proofs.Math.Seq.{take-append-add}
use Rattle.std.proofs.lemmas.Bool.{ne_eqb}
use Rattle.std.proofs.lemmas.List.Elements.{All-head, All-tail}
use Rattle.dg_nor.specs.Device.{Device}
use Rattle.dg_object.specs.Object.{Row}
use Rattle.dg_script.specs.Sizes.{most_used_bytes}
use Rattle.dg_lines.specs.LineReading.{HasNoEnd}
use Rattle.dg_script.specs.Places.{first_place}
use Rattle.dg_script.specs.Script.{script_from}
use Rattle.dg_replay.specs.Ending.{up_to, whole_lines, used}
use Rattle.dg_replay.specs.Prefixes.{IsWholeLines}
use Rattle.dg_replay.specs.Replayed.{AllRead}
use Rattle.dg_replay.specs.Replaying.{Reached}
use Rattle.dg_replay.specs.Shown.{Saw}
use Rattle.dg_replay.specs.Stages.{span}
use Rattle.dg_replay.specs.declared.player.Player.{Player}
use Rattle.dg_replay.proofs.EndLemmas.{is_over-true}
use Rattle.dg_replay.proofs.FrontLemmas.{whole_lines_front}

-- bytes without LF hold no whole line
pub whole_of_none : (bytes : List ℕ) → HasNoEnd bytes → whole_lines bytes ≡ []
unfolding whole_lines
whole_of_none [] h = refl
whole_of_none (c ∷ bytes) h =
    ap (up_to c) (whole_of_none bytes (All-tail (λ x. x ≢ 10) c bytes h))
    ∙ ap (λ (b : Bool). if b then c ∷ [] else []) (ne_eqb c 10 (All-head (λ x. x ≢ 10) c bytes h))

-- the whole lines among the bytes that were taken are those that were played
pub whole_of_taken : (front ahead : List ℕ) → IsWholeLines front → HasNoEnd ahead → whole_lines (front ++ ahead) ≡ front
whole_of_taken front ahead is none = whole_lines_front front ahead is ∙ ap (λ (xs : List ℕ). front ++ xs) (whole_of_none ahead none) ∙ append-nil front

cut_whole : (k : ℕ) (front ahead : List ℕ) → IsWholeLines front → length front ≤ k → HasNoEnd (take (k - length front) ahead) → whole_lines (take k (front ++ ahead)) ≡ front
cut_whole k front ahead is few none =
    let left : ℕ = k - length front in
    let sum : k ≡ length front + left = omega (arith, few) in
    let cut : take k (front ++ ahead) ≡ front ++ take left ahead = ap (λ n. take n (front ++ ahead)) sum ∙ take-append-add front ahead left in
    ap whole_lines cut ∙ whole_of_taken front (take left ahead) is none

-- where there are more bytes than are used
pub over_used : (front ahead : List ℕ) → IsWholeLines front → length front ≤ most_used_bytes → most_used_bytes < length (front ++ ahead) → HasNoEnd (take (most_used_bytes - length front) ahead) → used (front ++ ahead) ≡ front
over_used front ahead is few over none =
    ap (λ (b : Bool). if b then whole_lines (take most_used_bytes (front ++ ahead)) else front ++ ahead) (is_over-true (front ++ ahead) over)
    ∙ cut_whole most_used_bytes front ahead is few none

-- ---- what was played

-- all lines of these texts were played
pub all_read : {table : List Row} {S G : Saw} (texts : List (List ℕ)) (n : ℕ) (p : Player) (initial now : List Device) (before after : Option (List ℕ)) → (r : Reached table false (script_from false first_place 1 texts) [] n p (span initial now before after S G)) → AllRead texts r.done
unfolding script_from
all_read texts n p initial now before after r = record { lines = sym (append-nil r.done) ∙ r.lines; fault = sym r.fault }
