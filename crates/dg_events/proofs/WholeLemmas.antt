-- What the lines of an event tell of what its mote keeps whole.
use Rattle.std.proofs.Common.{◌≡◌, ◌⊎◌, ℕ, ◌<◌, ◌≤◌, ◌==◌, ◌&&◌, Bool, true, false, cond, List, [], ◌∷◌, length, Option, Some, None, inl, inr, refl, sym, ap, subst, ◌∙◌, ⊎_elim, arith, eqb-true}
use Rattle.std.specs.Prelude.{not, filter}
use Rattle.std.specs.List.{Contains, count_by, cons_option}
use Rattle.std.proofs.lemmas.Bool.{and_parts, cases_eq, cases_lt, false_from_ne_true}
use Rattle.std.proofs.lemmas.List.Sums.{length-filter}
use Rattle.dg_slot.specs.Kept.{Held}
use Rattle.dg_volume.specs.Sizes.{images}
use Rattle.dg_volume.specs.Store.{Store, held}
use Rattle.dg_volume.specs.Start.{is_whole}
use Rattle.dg_base.specs.declared.events.Event.{Event}
use Rattle.dg_script.specs.Items.{Item}
use Rattle.dg_script.specs.declared.report.Report.{Report}
use Rattle.dg_script.specs.declared.report.Report.TheVariants.{Have, Lost}
use Rattle.dg_rules.specs.World.{store_at}
use Rattle.dg_rules.specs.Events.{mote_of}
use Rattle.dg_rules.specs.Changes.{same_held, have_change}
use Rattle.dg_rules.specs.Runs.{Played, ItemStep}
use Rattle.dg_rules.proofs.ChangesLemmas.{StepLaws}
use Rattle.dg_events.specs.Keeps.{keeps_whole}
use Rattle.dg_events.specs.Noted.{IsEventPlayed}
use Rattle.dg_events.specs.HaveLines.{is_held_line, is_have_line, says_whole, IsToldWhole}
use Rattle.dg_events.proofs.PageCountLemmas.{SamePages}
use Rattle.dg_events.proofs.LineLemmas.{equal, apart, contrary, filter_through, line_told, line_is, line_once, line_none}
use Rattle.dg_events.proofs.PageStepLemmas.{Turns, item_turns}

none_some : {X : Type 0} (x : X) → ◌≡◌ {A = Option X} None (Some x) → ⊥
none_some x e = cc

both : (a b : Bool) → a ≡ true → b ≡ true → (a && b) ≡ true
both a b p q = cc

-- ---- what is kept of an image before and after, where the same version has the same number of pages

-- the parts of a whole image
record IsWhole (h : Held) (v : ℕ) : Type 0 where
  pub version : h.version ≡ v
  pub all : length h.complete ≡ h.pages

whole_parts : (h : Held) (v : ℕ) → is_whole (Some h) v ≡ true → IsWhole h v
whole_parts h v e =
    let parts = and_parts (h.version == v) (length h.complete == h.pages) e in
    record { version = eqb-true h.version v parts.0; all = eqb-true (length h.complete) h.pages parts.1 }

parts_whole : (h : Held) (v : ℕ) → h.version ≡ v → length h.complete ≡ h.pages → is_whole (Some h) v ≡ true
parts_whole h v version all = both (h.version == v) (length h.complete == h.pages) (equal h.version v version) (equal (length h.complete) h.pages all)

-- nothing that is reported changed
same_whole : (a b : Held) (v : ℕ) → SamePages (Some a) (Some b) → same_held (Some a) b ≡ true → is_whole (Some b) v ≡ is_whole (Some a) v
same_whole a b v pages same =
    let parts = and_parts (a.version == b.version) (length a.complete == length b.complete) same in
    let version : a.version ≡ b.version = eqb-true a.version b.version parts.0 in
    let done : length a.complete ≡ length b.complete = eqb-true (length a.complete) (length b.complete) parts.1 in
    ap (λ (n : ℕ). (n == v) && (length b.complete == b.pages)) (sym version)
    ∙ ap (λ (n : ℕ). (a.version == v) && (n == b.pages)) (sym done)
    ∙ ap (λ (n : ℕ). (a.version == v) && (length a.complete == n)) (sym (pages a b refl refl version))

-- a version that was whole, and is, has as many complete pages as before
whole_same : (a b : Held) (v : ℕ) → SamePages (Some a) (Some b) → is_whole (Some a) v ≡ true → is_whole (Some b) v ≡ true → same_held (Some a) b ≡ true
whole_same a b v pages was is =
    let p = whole_parts a v was in
    let q = whole_parts b v is in
    let version : a.version ≡ b.version = p.version ∙ sym q.version in
    both (a.version == b.version) (length a.complete == length b.complete) (equal a.version b.version version)
    (equal (length a.complete) (length b.complete) (p.all ∙ pages a b refl refl version ∙ sym q.all))

module _ (m i : ℕ) where
  -- no line is reported
  unchanged : (v : ℕ) (o n : Option Held) → SamePages o n → have_change m i o n ≡ None → is_whole n v ≡ is_whole o v
  unchanged v None None pages none = refl
  unchanged v (Some a) None pages none = absurd (none_some (Lost m i) (sym none))
  unchanged v None (Some b) pages none = absurd (none_some (Have m i b.version (length b.complete)) (sym none))
  unchanged v (Some a) (Some b) pages none = by (same_held (Some a) b) refl none
    where
      by : (c : Bool) → same_held (Some a) b ≡ c → cond c None (Some (Have m i b.version (length b.complete))) ≡ None → is_whole (Some b) v ≡ is_whole (Some a) v
      by true same none = same_whole a b v pages same
      by false other none = absurd (none_some (Have m i b.version (length b.complete)) (sym none))

  -- A line is reported of a version that is whole.
  record Told (v : ℕ) (o n : Option Held) : Type 0 where
    pub kept : Held
    pub is : n ≡ Some kept
    pub version_is : kept.version ≡ v
    pub told : have_change m i o n ≡ Some (Have m i v kept.pages)

  -- a version became whole
  became : (v : ℕ) (o n : Option Held) → SamePages o n → is_whole o v ≡ false → is_whole n v ≡ true → Told v o n
  became v o None pages was is = absurd cc
  became v o (Some b) pages was is =
      let q = whole_parts b v is in
      record {
        kept = b;
        is = refl;
        version_is = q.version;
        told = by (have_change m i o (Some b)) refl ∙ ap (λ (k : ℕ). Some (Have m i k (length b.complete))) q.version ∙ ap (λ (k : ℕ). Some (Have m i v k)) q.all;
      }
    where
      line : (c : Bool) → cond c None (Some (Have m i b.version (length b.complete))) ≡ None ⊎ (cond c None (Some (Have m i b.version (length b.complete))) ≡ Some (Have m i b.version (length b.complete)))
      line true = inl refl
      line false = inr refl

      by : (c : Option Report) → have_change m i o (Some b) ≡ c → have_change m i o (Some b) ≡ Some (Have m i b.version (length b.complete))
      by c e =
          ⊎_elim
          (λ none. absurd (contrary (is_whole o v) (sym (unchanged v o (Some b) pages none) ∙ is) was))
          (λ told. told)
          (line (same_held o b))

  -- a line is reported of a version that is whole: it was not
  was_not : (v : ℕ) (o n : Option Held) → SamePages o n → (k : ℕ) (j : ℕ) → have_change m i o n ≡ Some (Have j i v k) → is_whole n v ≡ true → is_whole o v ≡ false
  was_not v o None pages k j told is = absurd cc
  was_not v None (Some b) pages k j told is = refl
  was_not v (Some a) (Some b) pages k j told is =
      false_from_ne_true (is_whole (Some a) v) (λ was. absurd (none_some (Have j i v k) (sym (ap (λ (c : Bool). cond c None (Some (Have m i b.version (length b.complete)))) (whole_same a b v pages was is)) ∙ told)))

  -- the mote of a line
  of_mote : (o n : Option Held) (j v k : ℕ) → have_change m i o n ≡ Some (Have j i v k) → j ≡ m
  of_mote None None j v k told = absurd (none_some (Have j i v k) told)
  of_mote (Some a) None j v k told = absurd (lost told)
    where
      lost : Some (Lost m i) ≡ Some (Have j i v k) → ⊥
      lost e = cc
  of_mote o (Some b) j v k told = by (same_held o b) told
    where
      by : (c : Bool) → cond c None (Some (Have m i b.version (length b.complete))) ≡ Some (Have j i v k) → j ≡ m
      by true e = absurd (none_some (Have j i v k) e)
      by false e = cc

-- ---- events

module _ (p : Played) (m : ℕ) (t : Turns p.before m p.after p.reports) where
  -- the mote keeps what it kept, unless it is the event's, and there is such a mote
  same_store : (j : ℕ) → (j ≡ m → m < length p.before.sites → ⊥) → store_at p.after j ≡ store_at p.before j
  same_store j none =
      ⊎_elim
      (λ same. ⊎_elim
      (λ low. absurd (none same low))
      (λ high. subst (λ (k : ℕ). store_at p.after k ≡ store_at p.before k) (sym same) (t.past high))
      (cases_lt m (length p.before.sites)))
      (λ other. t.others j other)
      (cases_eq j m)

  -- what holds of the event's mote, and where nothing changes, holds of each mote
  each_mote : (P : ℕ → Type 0) → (m < length p.before.sites → P m) → ((j : ℕ) → store_at p.after j ≡ store_at p.before j → P j) → (j : ℕ) → P j
  each_mote P here stays j =
      ⊎_elim
      (λ same. ⊎_elim
      (λ low. subst P (sym same) (here low))
      (λ high. stays j (same_store j (λ _ low. omega (arith, low, high))))
      (cases_lt m (length p.before.sites)))
      (λ other. stays j (t.others j other))
      (cases_eq j m)

  whole_stays : (j i x : ℕ) → store_at p.after j ≡ store_at p.before j → keeps_whole p.after j i x ≡ keeps_whole p.before j i x
  whole_stays j i x e = ap (λ (s : Store). is_whole (held s i) x) e

  here : (i : ℕ) → m < length p.before.sites → held (store_at p.after m) i ≡ held t.new i
  here i low = ap (λ (s : Store). held s i) (t.there low)

  -- the line of an image
  abbrev change : ℕ → Option Report
  change i = have_change m i (held (store_at p.before m) i) (held t.new i)

  told_here : (i x : ℕ) → i < images → m < length p.before.sites → keeps_whole p.before m i x ≡ false → keeps_whole p.after m i x ≡ true → IsToldWhole m i x p
  told_here i x known low was is =
      let at = here i low in
      let g = became m i x (held (store_at p.before m) i) (held t.new i) (t.keeps.same i) was (ap (λ (n : Option Held). is_whole n x) (sym at) ∙ is) in
      record {
        kept = g.kept;
        is = at ∙ g.is;
        version_is = g.version_is;
        told = line_told (is_held_line i) p.reports (change i) (t.line i known) (Have m i x g.kept.pages) g.told;
      }

  pub whole_told : (j i x : ℕ) → i < images → keeps_whole p.before j i x ≡ false → keeps_whole p.after j i x ≡ true → (j ≡ m) × IsToldWhole j i x p
  whole_told j i x known =
      each_mote (λ k. keeps_whole p.before k i x ≡ false → keeps_whole p.after k i x ≡ true → (k ≡ m) × IsToldWhole k i x p)
      (λ low was is. (refl, told_here i x known low was is))
      (λ k e was is. absurd (contrary (keeps_whole p.before k i x) (sym (whole_stays k i x e) ∙ is) was))
      j

  line_of : (i : ℕ) (r : Report) → is_held_line i r ≡ true → Contains p.reports r → (i < images) × (change i ≡ Some r)
  line_of i r held_line has =
      ⊎_elim
      (λ known. (known, line_is (is_held_line i) p.reports (change i) (t.line i known) r held_line has))
      (λ past. absurd (none_some r (line_is (is_held_line i) p.reports None (t.no_line i past) r held_line has)))
      (cases_lt i images)

  pub told_new : (j i x n : ℕ) → j < length p.before.sites → Contains p.reports (Have j i x n) → keeps_whole p.after j i x ≡ true → keeps_whole p.before j i x ≡ false
  told_new j i x n there has is =
      let o = held (store_at p.before m) i in
      let told = (line_of i (Have j i x n) (equal i i refl) has).1 in
      let same : j ≡ m = of_mote m i o (held t.new i) j x n told in
      let low : m < length p.before.sites = subst (λ (k : ℕ). k < length p.before.sites) same there in
      let is_here : is_whole (held t.new i) x ≡ true = ap (λ (h : Option Held). is_whole h x) (sym (here i low)) ∙ subst (λ (k : ℕ). keeps_whole p.after k i x ≡ true) same is in
      subst (λ (k : ℕ). keeps_whole p.before k i x ≡ false) (sym same) (was_not m i x o (held t.new i) (t.keeps.same i) n j told is_here)

  pub untold_same : (j i x : ℕ) → i < images → count_by (is_held_line i) p.reports ≡ 0 → keeps_whole p.after j i x ≡ keeps_whole p.before j i x
  untold_same j i x known none =
      let o = held (store_at p.before m) i in
      each_mote (λ k. keeps_whole p.after k i x ≡ keeps_whole p.before k i x)
      (λ low. ap (λ (h : Option Held). is_whole h x) (here i low)
      ∙ unchanged m i x o (held t.new i) (t.keeps.same i) (line_none (is_held_line i) p.reports (change i) (t.line i known) none))
      (λ k e. whole_stays k i x e)
      j

  pub told_once : (i : ℕ) → count_by (is_held_line i) p.reports ≤ 1
  told_once i =
      ⊎_elim
      (λ known. line_once (is_held_line i) p.reports (change i) (t.line i known))
      (λ past. line_once (is_held_line i) p.reports None (t.no_line i past))
      (cases_lt i images)

-- ---- how many lines say that a version is whole

both_held : (m i v : ℕ) (r : Report) → is_have_line m i v r ≡ true → is_held_line i r ≡ true
both_held m i v (Have mote image version pages) is = (and_parts (image == i) (version == v) (and_parts (mote == m) ((image == i) && (version == v)) is).1).0
both_held m i v r is = absurd cc

none_pass : (f : Report → Bool) (rs : List Report) → count_by (λ (r : Report). false && f r) rs ≡ 0
none_pass f rs = sym (length-filter (λ (r : Report). false && f r) rs) ∙ ap length (none_left rs)
  where
    none_left : (xs : List Report) → filter (λ (r : Report). false && f r) xs ≡ []
    none_left [] = refl
    none_left (x ∷ xs) = none_left xs

module _ (m i v : ℕ) where
  -- a line of another mote
  other_mote : (j : ℕ) (o n : Option Held) → (m ≡ j → ⊥) → filter (is_have_line j i v) (cons_option (have_change m i o n) []) ≡ []
  other_mote j None None off = refl
  other_mote j (Some a) None off = refl
  other_mote j o (Some b) off = by (same_held o b)
    where
      by : (c : Bool) → filter (is_have_line j i v) (cons_option (cond c None (Some (Have m i b.version (length b.complete)))) []) ≡ []
      by true = refl
      by false = ap (λ (c : Bool). cond (c && ((i == i) && (b.version == v))) (Have m i b.version (length b.complete) ∷ []) []) (apart m j off)

  -- a version that stays whole
  stays_whole : (o n : Option Held) → SamePages o n → is_whole o v ≡ true → is_whole n v ≡ true → have_change m i o n ≡ None
  stays_whole o None pages was is = absurd cc
  stays_whole None (Some b) pages was is = absurd cc
  stays_whole (Some a) (Some b) pages was is = ap (λ (c : Bool). cond c None (Some (Have m i b.version (length b.complete)))) (whole_same a b v pages was is)

  this_line : (k : ℕ) → filter (is_have_line m i v) (Have m i v k ∷ []) ≡ Have m i v k ∷ []
  this_line k =
      ap (λ (c : Bool). cond c (Have m i v k ∷ []) [])
      (both (m == m) ((i == i) && (v == v)) (equal m m refl) (both (i == i) (v == v) (equal i i refl) (equal v v refl)))

  -- the line of the image, and whether the version was whole and is
  line_counts : (o n : Option Held) → SamePages o n → (was is : Bool) → is_whole o v ≡ was → is_whole n v ≡ is
      → (rs : List Report) → count_by (is_have_line m i v) rs ≡ length (filter (is_have_line m i v) (cons_option (have_change m i o n) []))
      → count_by (λ (r : Report). is && is_have_line m i v r) rs ≡ cond (is && not was) 1 0
  line_counts o n pages was false was_is is_is rs few = none_pass (is_have_line m i v) rs
  line_counts o n pages true true was_is is_is rs few =
      few ∙ ap (λ (c : Option Report). length (filter (is_have_line m i v) (cons_option c []))) (stays_whole o n pages was_is is_is)
  line_counts o n pages false true was_is is_is rs few =
      let g = became m i v o n pages was_is is_is in
      few ∙ ap (λ (c : Option Report). length (filter (is_have_line m i v) (cons_option c []))) g.told ∙ ap length (this_line g.kept.pages)

module _ (p : Played) (m : ℕ) (t : Turns p.before m p.after p.reports) (i v : ℕ) (known : i < images) where
  abbrev old : Option Held
  old = held (store_at p.before m) i

  have_lines : (j : ℕ) → count_by (is_have_line j i v) p.reports ≡ length (filter (is_have_line j i v) (cons_option (have_change m i old (held t.new i)) []))
  have_lines j =
      sym (length-filter (is_have_line j i v) p.reports)
      ∙ ap length (sym (filter_through (is_have_line j i v) (is_held_line i) (both_held j i v) p.reports) ∙ ap (filter (is_have_line j i v)) (t.line i known))

  counts_here : m < length p.before.sites → count_by (says_whole p.after m i v) p.reports ≡ cond (keeps_whole p.after m i v && not (keeps_whole p.before m i v)) 1 0
  counts_here low =
      line_counts m i v old (held t.new i) (t.keeps.same i) (keeps_whole p.before m i v) (keeps_whole p.after m i v) refl
      (sym (ap (λ (h : Option Held). is_whole h v) (here p m t i low))) p.reports (have_lines m)

  counts_other : (j : ℕ) → (j ≡ m → ⊥) → count_by (says_whole p.after j i v) p.reports ≡ cond (keeps_whole p.after j i v && not (keeps_whole p.before j i v)) 1 0
  counts_other j off = by (keeps_whole p.after j i v) (keeps_whole p.before j i v) (whole_stays p m t j i v (t.others j off))
    where
      by : (is was : Bool) → is ≡ was → count_by (λ (r : Report). is && is_have_line j i v r) p.reports ≡ cond (is && not was) 1 0
      by false was e = none_pass (is_have_line j i v) p.reports
      by true was e =
          have_lines j ∙ ap length (other_mote m i v j old (held t.new i) (λ same. off (sym same)))
          ∙ ap (λ (b : Bool). cond (true && not b) 1 0) e

  pub told_count : (j : ℕ) → j < length p.before.sites → count_by (says_whole p.after j i v) p.reports ≡ cond (keeps_whole p.after j i v && not (keeps_whole p.before j i v)) 1 0
  told_count j there =
      ⊎_elim
      (λ same. subst (λ (k : ℕ). count_by (says_whole p.after k i v) p.reports ≡ cond (keeps_whole p.after k i v && not (keeps_whole p.before k i v)) 1 0) (sym same)
      (counts_here (subst (λ (k : ℕ). k < length p.before.sites) same there)))
      (λ other. counts_other j other)
      (cases_eq j m)

pub event_turns : StepLaws → (e : Event) (lines : List Report) (p : Played) → IsEventPlayed e lines p → Turns p.before (mote_of e) p.after p.reports
event_turns laws e lines p is =
    item_turns laws p.before (record { event = e; cut = is.cut }) is.reported p.after p.reports (subst (λ (i : Item). ItemStep p.before i p.after p.reports) is.item is.step)
