-- What a mounted volume reports of the images that it keeps.
use Rattle.std.proofs.Common.{◌≡◌, ◌≢◌, ◌<◌, ℕ, Bool, true, false, List, [], ◌∷◌, ◌++◌, length, Option, Some, None, Ok, IfSome, refl, sym, ap, subst, ◌∙◌, arith, cond}
use Rattle.std.specs.Prelude.{◌==◌, IsSomeAnd, slice_index_or, codes}
use Rattle.std.proofs.lemmas.Bool.Decides.{nat_tests}
use Rattle.dg_nor.specs.Device.{Device}
use Rattle.dg_nor.specs.Reads.{Looked, ReadStopped}
use Rattle.dg_slot.specs.Kept.{Held, KeepsImage}
use Rattle.dg_volume.specs.Sizes.{images}
use Rattle.dg_volume.specs.Store.{Store, held}
use Rattle.dg_volume.specs.Stands.{Mounted, IsMounted, kept_at}
use Rattle.dg_volume.specs.Told.{told, told_held}
use Rattle.dg_volume.specs.declared.volume.Kept.{Kept}
use Rattle.dg_volume.specs.declared.volume.Volume.{Volume}
use Rattle.dg_ihex.specs.Written.{written_file}
use Rattle.dg_end.specs.declared.refusal.Refusal.TheVariants as refusals
use Rattle.dg_end.specs.declared.ends.End.TheVariants as ends
use Rattle.dg_end.specs.Lines.{Outcome}
use Rattle.dg_volume.specs.Start.{length_in}
use Rattle.dg_end.specs.Texts.{numbers, line}
use Rattle.dg_tool.specs.Pages.{name_in, first_page, image_bytes}
use Rattle.dg_tool.specs.Endings.{VerbEnding, Reading, Acting}
use Rattle.dg_tool.specs.Verbs.{dump_by, name_by, ping_line, golden_text}
use Rattle.dg_tool.specs.Done.{NeedsBoard}
use Rattle.dg_tool.specs.inner.OneBoard.{OnStore}

-- ---- an image

told_none : (o : Option Held) → told o ≡ None → o ≡ None
told_none None e = refl
told_none (Some h) e = cc

told_some : (o : Option Held) (k : Kept) → told o ≡ Some k → (h : Held) × (o ≡ Some h) × (k ≡ told_held h)
told_some None k e = cc
told_some (Some h) k e = (h, refl, cc)

pub held_none : (c : List ℕ) (v : Volume) (s : Store) (i : ℕ) → Mounted c v s → i < images → kept_at v i ≡ None → held s i ≡ None
held_none c v s i m low e = told_none (held s i) (sym (m.tells.kept i low (λ x. x)) ∙ e)

-- what is kept of it, if the volume reports that something is
pub record KeptHere (c : List ℕ) (s : Store) (i : ℕ) (k : Kept) : Type 0 where
  pub kept : Held
  pub here : held s i ≡ Some kept
  pub keeps : KeepsImage c i kept
  pub told_is : k ≡ told_held kept

if_some : (P : Held → Type 0) (o : Option Held) (h : Held) → o ≡ Some h → IfSome o P → P h
if_some P o h e p = subst (λ (x : Option Held). IfSome x P) e p

pub held_some : (c : List ℕ) (v : Volume) (s : Store) (i : ℕ) (k : Kept) → Mounted c v s → i < images → kept_at v i ≡ Some k → KeptHere c s i k
held_some c v s i k m low e =
    let x = told_some (held s i) k (sym (m.tells.kept i low (λ y. y)) ∙ e) in
    record { kept = x.0; here = x.1; keeps = if_some (KeepsImage c i) (held s i) x.0 x.1 (m.stands.contains.kept i low); told_is = x.2 }

-- it is so at any store that the board stands for
pub kept_there : (c : List ℕ) (v : Volume) (i : ℕ) (k : Kept) → IsMounted c v → i < images → kept_at v i ≡ Some k → (h : Held) × KeepsImage c i h × (k ≡ told_held h)
kept_there c v i k m low e = let x = held_some c v m.0 i k m.1 low e in (x.kept, x.keeps, x.told_is)

-- golden is whole
some_and : (P : Held → Type 0) (o : Option Held) → IsSomeAnd o P → (h : Held) × (o ≡ Some h) × P h
some_and P None p = absurd p
some_and P (Some h) p = (h, refl, p)

pub record GoldenHere (c : List ℕ) (s : Store) : Type 0 where
  pub kept : Held
  pub here : held s 0 ≡ Some kept
  pub keeps : KeepsImage c 0 kept
  pub some : 0 < length kept.complete

pub golden_here : (c : List ℕ) (v : Volume) (s : Store) → Mounted c v s → GoldenHere c s
golden_here c v s m =
    let x = some_and _ (held s 0) m.stands.contains.golden.whole in
    let low : 0 < images = omega arith in
    let keeps = if_some (KeepsImage c 0) (held s 0) x.0 x.1 (m.stands.contains.kept 0 low) in
    record { kept = x.0; here = x.1; keeps = keeps; some = omega (arith, keeps.header.some, x.2.1) }

-- ---- dump

dump_whole_is : (h : Held) → length h.complete ≡ h.pages → dump_by (Some h) ≡ Acting (Ok (written_file (image_bytes h)))
dump_whole_is h e =
    let test : (length h.complete == h.pages) ≡ true = same_test (length h.complete) h.pages e in
    ap (λ (b : Bool). cond b (Acting (Ok (written_file (image_bytes h)))) (Reading (ends.Refused (refusals.NotWhole (length h.complete) h.pages)))) test
  where
    same_test : (m n : ℕ) → m ≡ n → (m == n) ≡ true
    same_test m n same = grind (arith, nat_tests)

dump_part_is : (h : Held) → length h.complete ≢ h.pages → dump_by (Some h) ≡ Reading (ends.Refused (refusals.NotWhole (length h.complete) h.pages))
dump_part_is h e =
    let test : (length h.complete == h.pages) ≡ false = other_test (length h.complete) h.pages e in
    ap (λ (b : Bool). cond b (Acting (Ok (written_file (image_bytes h)))) (Reading (ends.Refused (refusals.NotWhole (length h.complete) h.pages)))) test
  where
    other_test : (m n : ℕ) → (m ≡ n → ⊥) → (m == n) ≡ false
    other_test m n other = grind (arith, nat_tests)

test_needs : (b : Bool) (x y : VerbEnding) → NeedsBoard x → NeedsBoard y → NeedsBoard (cond b x y)
test_needs true x y p q = p
test_needs false x y p q = q

pub dump_needs : (o : Option Held) → NeedsBoard (dump_by o)
dump_needs None = tt
dump_needs (Some h) = test_needs (length h.complete == h.pages) (Acting (Ok (written_file (image_bytes h)))) (Reading (ends.Refused (refusals.NotWhole (length h.complete) h.pages))) tt tt

module _ (outcome : Outcome) (a b : Device) where
  abbrev pub Dumped : VerbEnding → Type 0
  Dumped ending = OnStore outcome ending Looked ReadStopped a b

  pub dumped_whole : (h : Held) → length h.complete ≡ h.pages → Dumped (Acting (Ok (written_file (image_bytes h)))) → Dumped (dump_by (Some h))
  dumped_whole h e p = subst Dumped (sym (dump_whole_is h e)) p

  pub dumped_part : (h : Held) → length h.complete ≢ h.pages → Dumped (Reading (ends.Refused (refusals.NotWhole (length h.complete) h.pages))) → Dumped (dump_by (Some h))
  dumped_part h e p = subst Dumped (sym (dump_part_is h e)) p

  pub dumped_at : (s : Store) (i : ℕ) (o : Option Held) → held s i ≡ o → Dumped (dump_by o) → Dumped (dump_by (held s i))
  dumped_at s i o e p = subst (λ (x : Option Held). Dumped (dump_by x)) (sym e) p

-- ---- ping

pub kept_line_is : (i : ℕ) (k : Kept) (h : Held) (name : List ℕ) → k ≡ told_held h → name ≡ name_by h.complete → line (codes "kept" ++ numbers (i ∷ k.version ∷ k.done ∷ k.pages ∷ []) ++ 32 ∷ name) ≡ ping_line i (Some h)
kept_line_is i k h name e f =
    ap (λ (x : Kept). line (codes "kept" ++ numbers (i ∷ x.version ∷ x.done ∷ x.pages ∷ []) ++ 32 ∷ name)) e ∙ ap (λ (x : List ℕ). line (codes "kept" ++ numbers (i ∷ h.version ∷ length h.complete ∷ h.pages ∷ []) ++ 32 ∷ x)) f

pub name_none : (ps : List (List ℕ)) → length ps ≡ 0 → 45 ∷ [] ≡ name_by ps
name_none [] e = refl
name_none (p ∷ ps) e = absurd (omega (arith, e))

pub name_some : (ps : List (List ℕ)) → 0 < length ps → name_in (slice_index_or ps 0 []) ≡ name_by ps
name_some [] e = absurd (omega (arith, e))
name_some (p ∷ ps) e = refl

pub line_at : (i : ℕ) (o p : Option Held) (before now : List ℕ) → o ≡ p → now ≡ before ++ ping_line i p → now ≡ before ++ ping_line i o
line_at i o p before now e h = h ∙ ap (λ (x : Option Held). before ++ ping_line i x) (sym e)

pub golden_line : (o : Option Held) (h : Held) (name : List ℕ) (size : ℕ) → o ≡ Some h → name ≡ name_in (first_page h) → size ≡ length_in (first_page h) → line (codes "golden " ++ name ++ numbers (size ∷ [])) ≡ golden_text o
golden_line o h name size e f g =
    ap (λ (x : List ℕ). line (codes "golden " ++ x ++ numbers (size ∷ []))) f ∙ ap (λ (x : ℕ). line (codes "golden " ++ name_in (first_page h) ++ numbers (x ∷ []))) g ∙ ap golden_text (sym e)
