-- Texts that are drawn at the same places of the same values, and texts that are appended one after another.
use Rattle.std.proofs.Common.{◌≡◌, ℕ, ◌+◌, List, ◌++◌, ap, ◌∙◌, append_assoc}
use Rattle.std.proofs.Math.Path.{fun_ext}
use Rattle.std.specs.BTreeMap.{BTreeMap}
use Rattle.dg_layout.specs.Counts.{held}
use Rattle.dg_story.specs.Reports.{largest}
use Rattle.dg_layout.specs.Layout.{left_of}
use Rattle.dg_picture.specs.Picture.{turn_text, step_text, version_text, mark_text}
use Rattle.dg_story.specs.declared.told.Told.{Told}
use Rattle.dg_story.specs.declared.reports.Pages.{Pages}
use Rattle.dg_story.specs.declared.reports.Mark.{Mark}
use Rattle.dg_layout.specs.declared.layout.Grid.{Grid}

pub turn_here : (grid : Grid) (heights : ℕ → ℕ) (k left base at old new : ℕ) → left ≡ left_of grid k → base ≡ at → old ≡ heights k → new ≡ heights (k + 1)
    → turn_text left base old new ≡ step_text grid at heights k
turn_here grid heights k left base at old new p q r s =
    ap (λ n. turn_text n base old new) p
    ∙ ap (λ n. turn_text (left_of grid k) n old new) q
    ∙ ap (λ n. turn_text (left_of grid k) at n new) r
    ∙ ap (λ n. turn_text (left_of grid k) at (heights k) n) s

pub version_here : (lane left l base b : ℕ) (old o new n : Pages) → left ≡ l → base ≡ b → old ≡ o → new ≡ n
    → version_text left base lane old.version new.version ≡ version_text l b lane o.version n.version
version_here lane left l base b old o new n p q r s =
    ap (λ x. version_text x base lane old.version new.version) p
    ∙ ap (λ x. version_text l x lane old.version new.version) q
    ∙ ap (λ (x : Pages). version_text l b lane x.version new.version) r
    ∙ ap (λ (x : Pages). version_text l b lane o.version x.version) s

pub mark_here : (mark : Mark) (mote : ℕ) (here h : List Told) (left l base b : ℕ) → here ≡ h → left ≡ l → base ≡ b
    → mark_text mark here left base mote ≡ mark_text mark h l b mote
mark_here mark mote here h left l base b p q r =
    ap (λ (xs : List Told). mark_text mark xs left base mote) p
    ∙ ap (λ n. mark_text mark h n base mote) q
    ∙ ap (λ n. mark_text mark h l n mote) r

six : (o a b c d e f : List ℕ) → (((((o ++ a) ++ b) ++ c) ++ d) ++ e) ++ f ≡ o ++ (a ++ (b ++ (c ++ (d ++ (e ++ f)))))
six o a b c d e f = simp append_assoc

-- six texts are appended, of which the second is another's
pub six_parts : (o a b other c d e f x1 x2 x3 x4 x5 x6 : List ℕ) → x1 ≡ o ++ a → x2 ≡ x1 ++ b → b ≡ other → x3 ≡ x2 ++ c → x4 ≡ x3 ++ d → x5 ≡ x4 ++ e → x6 ≡ x5 ++ f
    → x6 ≡ o ++ (a ++ (other ++ (c ++ (d ++ (e ++ f)))))
six_parts o a b other c d e f x1 x2 x3 x4 x5 x6 p q same r s t u = let h = six o a other c d e f in cc

three : (o a b c : List ℕ) → ((o ++ a) ++ b) ++ c ≡ o ++ (a ++ (b ++ c))
three o a b c = simp append_assoc

-- three texts are appended, of which the first two are another's
pub three_parts : (o a first b second c x1 x2 x3 : List ℕ) → x1 ≡ o ++ a → a ≡ first → x2 ≡ x1 ++ b → b ≡ second → x3 ≡ x2 ++ c → x3 ≡ o ++ (first ++ (second ++ c))
three_parts o a first b second c x1 x2 x3 p same q like r = let h = three o first second c in cc

-- a map of all largest counts
pub held_are : (counts : BTreeMap ℕ ℕ) (image : ℕ) (told : List Told) → ((version : ℕ) → held counts version ≡ largest image version told)
    → held counts ≡ (λ version. largest image version told)
held_are counts image told h = fun_ext h
