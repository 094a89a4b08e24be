-- In a legal step no version falls.
use Rattle.std.proofs.Common.{◌≡◌, ◌⊎◌, ℕ, ◌<◌, Bool, true, false, List, length, Option, Some, None, Result, Ok, Err, refl, sym, ap, subst, ◌∙◌, inl, inr, ⊎_elim, arith}
use Rattle.std.proofs.lemmas.Bool.{cases_eq, cases_lt}
use Rattle.std.proofs.lemmas.List.{get_or-set_same, get_or-set_other, get_or_past}
use Rattle.dg_control.specs.declared.snapshot.Order.{Order}
use Rattle.dg_object.specs.Object.{Row}
use Rattle.dg_frame.specs.Grammar.{message_of}
use Rattle.dg_frame.specs.declared.Entry.{Entry}
use Rattle.dg_frame.specs.declared.FrameFault.{FrameFault}
use Rattle.dg_frame.specs.declared.Message.{Message}
use Rattle.dg_frame.specs.declared.Message.TheVariants.{Advert, Request, Packet, Wide}
use Rattle.dg_mote.specs.Summary.{advert_by, entry_for}
use Rattle.dg_rules.specs.World.{World, wide_at}
use Rattle.dg_rules.specs.Small.{Holding, SmallMote, Small, small, small_mote_at, holds, whole}
use Rattle.dg_rules.specs.Events.{Does, Refuses, Goes, does, mote_of}
use Rattle.dg_rules.specs.Steps.{blows}
use Rattle.dg_rules.specs.Legal.{Past, Came, taking, MayInject, CutHolding, LegalInject, LegalOrder, LegalTick, LegalReset, IsOlder, LegalAdvert, LegalPacket, LegalMessage, LegalFrame, LegalAt, off_after, step_facts, AllCame}
use Rattle.dg_rules.specs.Past.{brought, past_of}
use Rattle.dg_script.specs.Items.{Item, Declares, Applies}
use Rattle.dg_rules.specs.Runs.{Played}
use Rattle.dg_rules.specs.Promises.{LegalDoes, LegalItem, IsLegal, IsKeptIn, NamesNewer, Replaces, IsBlown, KeepsItem, KeepsAll, GoldenStays}
use Rattle.dg_base.specs.declared.events.Event.{Event}
use Rattle.dg_base.specs.declared.events.Event.TheVariants.{Tick, Hear, Last, Reset, Inject, Order as OrderEvent, Frame}
use Rattle.dg_base.specs.declared.events.Step.{Step}
use Rattle.dg_rules.proofs.TableLemmas.{row_at-image_version}
use Rattle.dg_rules.proofs.MessageLemmas.{same_holding_stays}

same_holding : (a b : Holding) → Some a ≡ Some b → a ≡ b
same_holding a b e = cc

none_some : (h : Holding) → ◌≡◌ {A = Option Holding} None (Some h) → ⊥
none_some h e = cc

kept_itself : (o : Option Holding) (h : Holding) → o ≡ Some h → IsKeptIn o h
kept_itself o h e = subst (λ (x : Option Holding). IsKeptIn x h) (sym e) (inr (refl, omega arith))

-- it is kept, or a newer version was replacing it where the cut fired
abbrev After : World → Event → Bool → ℕ → Holding → Option Holding → Type 0
After w event fired i h new = IsKeptIn new h ⊎ ((new ≡ None) × Replaces w event i h × (fired ≡ true))

-- ---- an injection

whole_kept : (row : Row) (h : Holding) → MayInject (Some h) row → IsKeptIn (Some (whole row)) h
whole_kept row h may = may

cut_kept : (row : Row) (h : Holding) (new : Option Holding) → MayInject (Some h) row → CutHolding (Some h) row new → IsKeptIn new h ⊎ ((new ≡ None) × (h.version < row.version))
cut_kept row h None may how =
    ⊎_elim
    (λ none. absurd (none_some h (sym none)))
    (λ older. inr (refl, subst (λ (x : Holding). x.version < row.version) (sym (same_holding h older.0 older.1)) older.2))
    how
cut_kept row h (Some new) may how =
    ⊎_elim
    (λ same. inl (kept_itself (Some new) h (sym same)))
    (λ more. ⊎_elim
    (λ older. let at = more.0 in inl (inl (omega (arith, at, older))))
    (λ grown. let at = more.0 in let same = grown.0 in inl (inr (omega (arith, at, same), more.1 h refl grown.0)))
    may)
    how

module _ (w : World) (declared table after : List Row) (fired : Bool) (m image version dt word : ℕ) (old mid : SmallMote) (legal : LegalInject declared table after fired (record { image = image; version = version }) old mid) (h : Holding) (had : holds old image ≡ Some h) where
  injected_within : image < length old.holdings
  injected_within =
      ⊎_elim (λ low. low) (λ past. absurd (none_some h (sym (get_or_past old.holdings image None past) ∙ had))) (cases_lt image (length old.holdings))

  injected_here : holds mid image ≡ legal.held
  injected_here = ap (λ (x : SmallMote). holds x image) legal.change ∙ get_or-set_same old.holdings image legal.held None injected_within

  may_here : MayInject (Some h) legal.row
  may_here = subst (λ (o : Option Holding). MayInject o legal.row) had legal.before

  newer : (x : Holding) → x.version < legal.row.version → Replaces w (Inject m image version dt word) image x
  newer x low = let at = (row_at-image_version declared image version legal.row legal.is_declared).1 in (refl, omega (arith, low, at))

  injected_after : After w (Inject m image version dt word) fired image h (holds mid image)
  injected_after =
      subst (After w (Inject m image version dt word) fired image h) (sym injected_here)
      (⊎_elim
      (λ all. subst (After w (Inject m image version dt word) fired image h) (sym all.1) (inl (whole_kept legal.row h may_here)))
      (λ part. ⊎_elim
      (λ kept. inl kept)
      (λ lost. inr (lost.0, newer h lost.1, part.0))
      (cut_kept legal.row h legal.held may_here (subst (λ (o : Option Holding). CutHolding o legal.row legal.held) had part.1)))
      legal.how)

injected_other : (declared table after : List Row) (fired : Bool) (image version i : ℕ) (old mid : SmallMote) → LegalInject declared table after fired (record { image = image; version = version }) old mid → (i ≡ image → ⊥) → holds mid i ≡ holds old i
injected_other declared table after fired image version i old mid legal other =
    ap (λ (x : SmallMote). holds x i) legal.change ∙ get_or-set_other old.holdings image i legal.held None other

off_holds : (fired : Bool) (x : SmallMote) (i : ℕ) → holds (off_after fired x) i ≡ holds x i
off_holds true x i = refl
off_holds false x i = refl

-- ---- every event

tick_holds : (table : List Row) (fired : Bool) (old new : SmallMote) (i : ℕ) → LegalTick table fired old new → holds new i ≡ holds old i
tick_holds table false old new i legal = ⊎_elim (λ same. ap (λ (x : SmallMote). holds x i) same) (λ start. ap (λ (x : SmallMote). holds x i) start.0.change) legal
tick_holds table true old new i legal = ap (λ (x : SmallMote). holds x i) legal.change

reset_holds : (table : List Row) (fired : Bool) (old new : SmallMote) (i : ℕ) → LegalReset table fired old new → holds new i ≡ holds old i
reset_holds table false old new i legal = ap (λ (x : SmallMote). holds x i) legal.change
reset_holds table true old new i legal = ap (λ (x : SmallMote). holds x i) legal.change

order_holds : (fired : Bool) (order : Order) (old new mid : SmallMote) (i : ℕ) → LegalOrder fired order old mid → new ≡ off_after fired mid → holds new i ≡ holds old i
order_holds fired order old new mid i legal is =
    ap (λ (x : SmallMote). holds x i) is ∙ off_holds fired mid i
    ∙ ⊎_elim (λ kept. ap (λ (x : SmallMote). holds x i) kept) (λ stays. ap (λ (x : SmallMote). holds x i) stays.1) legal.change

-- ---- frames

within_holds : (x : SmallMote) (i : ℕ) (h : Holding) → holds x i ≡ Some h → i < length x.holdings
within_holds x i h had = ⊎_elim (λ low. low) (λ past. absurd (none_some h (sym (get_or_past x.holdings i None past) ∙ had))) (cases_lt i (length x.holdings))

-- what is kept of an image after a frame, where this was kept before
abbrev Framed : (wide : Bool) → Option (List ℕ) → (fired : Bool) → ℕ → Holding → Option Holding → Type 0
Framed wide frame fired i h new = IsKeptIn new h ⊎ ((new ≡ None) × NamesNewer wide frame i h × (fired ≡ true))

older_than : (o : Option Holding) (h : Holding) (version : ℕ) → o ≡ Some h → IsOlder o version → h.version < version
older_than o h version had older = subst (λ (x : Option Holding). IsOlder x version) had older

module _ (wide : Bool) (bytes : List ℕ) (fired : Bool) (i : ℕ) (h : Holding) (old mid : SmallMote) (had : holds old i ≡ Some h) where
  framed_stays : mid ≡ old → Framed wide (Some bytes) fired i h (holds mid i)
  framed_stays same = inl (kept_itself (holds mid i) h (ap (λ (x : SmallMote). holds x i) same ∙ had))

  framed_advert : (kind : Bool) (source : ℕ) (entries : List Entry) (order : Order) → message_of bytes wide ≡ Ok (advert_by kind source entries order) → LegalAdvert fired entries order old mid → Framed wide (Some bytes) fired i h (holds mid i)
  framed_advert kind source entries order is l =
      ⊎_elim
      (λ here.
      let old_here : holds old l.image ≡ Some h = ap (holds old) (sym here) ∙ had in
      let new_here : holds mid i ≡ l.held =
      ap (holds mid) here ∙ ap (λ (x : SmallMote). holds x l.image) l.change ∙ get_or-set_same old.holdings l.image l.held None (within_holds old l.image h old_here) in
      let e = entry_for entries l.image in
      subst (Framed wide (Some bytes) fired i h) (sym new_here)
      (⊎_elim
      (λ same. inl (kept_itself l.held h (same ∙ old_here)))
      (λ other.
      let newer : h.version < e.version = older_than (holds old l.image) h e.version old_here other.1 in
      ⊎_elim
      (λ begun. inl (subst (λ (x : Option Holding). IsKeptIn x h) (sym begun) (inl newer)))
      (λ gone. inr (gone.1, subst (λ (k : ℕ). NamesNewer wide (Some bytes) k h) (sym here) (kind, source, entries, order, is, other.0, newer), gone.0))
      other.2)
      l.held_change))
      (λ apart. inl (kept_itself (holds mid i) h (ap (λ (x : SmallMote). holds x i) l.change ∙ get_or-set_other old.holdings l.image i l.held None apart ∙ had)))
      (cases_eq i l.image)

  framed_packet : (past : Past) (m image version page : ℕ) → LegalPacket (AllCame m wide image version page past) image version page old mid → Framed wide (Some bytes) fired i h (holds mid i)
  framed_packet past m image version page l =
      ⊎_elim
      (λ here.
      let old_here : holds old image ≡ Some h = ap (holds old) (sym here) ∙ had in
      let new_here : holds mid i ≡ l.held = ap (holds mid) here ∙ ap (λ (x : SmallMote). holds x image) l.change ∙ get_or-set_same old.holdings image l.held None (within_holds old image h old_here) in
      subst (Framed wide (Some bytes) fired i h) (sym new_here)
      (⊎_elim
      (λ same. inl (kept_itself l.held h (same ∙ old_here)))
      (λ more.
      let was : h ≡ record { version = version; pages = page } = same_holding h (record { version = version; pages = page }) (sym old_here ∙ more.1) in
      inl (subst (λ (x : Option Holding). IsKeptIn x h) (sym more.2) (inr (ap (λ (x : Holding). x.version) was, let n = ap (λ (x : Holding). x.pages) was in omega (arith, n)))))
      l.held_change))
      (λ apart. inl (kept_itself (holds mid i) h (ap (λ (x : SmallMote). holds x i) l.change ∙ get_or-set_other old.holdings image i l.held None apart ∙ had)))
      (cases_eq i image)

  framed_by : (past : Past) (m : ℕ) (r : Result Message FrameFault) → message_of bytes wide ≡ r → LegalMessage past fired m wide r old mid → Framed wide (Some bytes) fired i h (holds mid i)
  framed_by past m (Err fault) is legal = framed_stays legal
  framed_by past m (Ok (Advert source entries order)) is legal = framed_advert false source entries order is legal
  framed_by past m (Ok (Request source to image version page want)) is legal = framed_stays legal
  framed_by past m (Ok (Wide source entries order)) is legal = framed_advert true source entries order is legal
  framed_by past m (Ok (Packet source image version page q content)) is legal = framed_packet past m image version page legal

framed : (wide : Bool) (frame : Option (List ℕ)) (fired : Bool) (i : ℕ) (h : Holding) (past : Past) (m : ℕ) (old mid : SmallMote) → holds old i ≡ Some h → LegalFrame past fired m wide frame old mid
    → Framed wide frame fired i h (holds mid i)
framed wide None fired i h past m old mid had legal = absurd legal
framed wide (Some bytes) fired i h past m old mid had legal = framed_by wide bytes fired i h old mid had (Came m bytes past) m (message_of bytes wide) refl legal

-- the same, where the mote is off after a cut
framed_then : (wide : Bool) (frame : Option (List ℕ)) (fired : Bool) (i : ℕ) (h : Holding) (past : Past) (m : ℕ) (old mid new : SmallMote) → holds old i ≡ Some h → LegalFrame past fired m wide frame old mid → new ≡ off_after fired mid
    → Framed wide frame fired i h (holds new i)
framed_then wide frame fired i h past m old mid new had legal is =
    subst (Framed wide frame fired i h) (sym (ap (λ (x : SmallMote). holds x i) is ∙ off_holds fired mid i)) (framed wide frame fired i h past m old mid had legal)

-- golden stays
golden_message : (past : Past) (fired : Bool) (m : ℕ) (wide : Bool) (r : Result Message FrameFault) (old mid : SmallMote) → LegalMessage past fired m wide r old mid → holds mid 0 ≡ holds old 0
golden_message past fired m wide (Err fault) old mid legal = ap (λ (x : SmallMote). holds x 0) legal
golden_message past fired m wide (Ok (Advert source entries order)) old mid legal =
    let low = legal.known in ap (λ (x : SmallMote). holds x 0) legal.change ∙ get_or-set_other old.holdings legal.image 0 legal.held None (λ e. absurd (omega (arith, e, low)))
golden_message past fired m wide (Ok (Request source to image version page want)) old mid legal = ap (λ (x : SmallMote). holds x 0) legal
golden_message past fired m wide (Ok (Wide source entries order)) old mid legal =
    let low = legal.known in ap (λ (x : SmallMote). holds x 0) legal.change ∙ get_or-set_other old.holdings legal.image 0 legal.held None (λ e. absurd (omega (arith, e, low)))
golden_message past fired m wide (Ok (Packet source image version page q content)) old mid legal =
    ap (λ (x : SmallMote). holds x 0) legal.change
    ∙ ⊎_elim
    (λ same. ap (λ (o : Option Holding). holds (taking old image o) 0) same ∙ ap (λ (x : SmallMote). holds x 0) (sym (same_holding_stays old image)))
    (λ more. let low = more.0 in get_or-set_other old.holdings image 0 legal.held None (λ e. absurd (omega (arith, e, low))))
    legal.held_change

golden_frame : (wide : Bool) (frame : Option (List ℕ)) (past : Past) (fired : Bool) (m : ℕ) (old mid new : SmallMote) → LegalFrame past fired m wide frame old mid → new ≡ off_after fired mid → holds new 0 ≡ holds old 0
golden_frame wide None past fired m old mid new legal is = absurd legal
golden_frame wide (Some bytes) past fired m old mid new legal is =
    ap (λ (x : SmallMote). holds x 0) is ∙ off_holds fired mid 0 ∙ golden_message (Came m bytes past) fired m wide (message_of bytes wide) old mid legal

-- ---- every kind of event

at_mote : (past : Past) (w : World) (declared table : List Row) (fired : Bool) (e : Event) (old new : SmallMote) (after : List Row) (i : ℕ) (h : Holding) → LegalAt (step_facts past declared fired (wide_at w (mote_of e)) (brought w e)) table e old new after → holds old i ≡ Some h
    → After w e fired i h (holds new i)
at_mote past w declared table fired (Hear m dt word number) old new after i h legal had = framed_then (wide_at w m) (brought w (Hear m dt word number)) fired i h past m old legal.1 new had legal.2 legal.3
at_mote past w declared table fired (Last from m dt word) old new after i h legal had = framed_then (wide_at w m) (brought w (Last from m dt word)) fired i h past m old legal.1 new had legal.2 legal.3
at_mote past w declared table fired (Frame m dt word bytes) old new after i h legal had = framed_then (wide_at w m) (Some bytes) fired i h past m old legal.1 new had legal.2 legal.3
at_mote past w declared table fired (Tick m dt word) old new after i h legal had = inl (kept_itself (holds new i) h (tick_holds table fired old new i legal.1 ∙ had))
at_mote past w declared table fired (Reset m dt word) old new after i h legal had = inl (kept_itself (holds new i) h (reset_holds table fired old new i legal.0 ∙ had))
at_mote past w declared table fired (OrderEvent m number image version dt word) old new after i h legal had =
    inl (kept_itself (holds new i) h (order_holds fired (record { number = number; image = image; version = version }) old new legal.0 i legal.1 legal.2 ∙ had))
at_mote past w declared table fired (Inject m image version dt word) old new after i h legal had =
    let e = Inject m image version dt word in
    let mid = legal.0 in
    let at : holds new i ≡ holds mid i = ap (λ (x : SmallMote). holds x i) legal.2 ∙ off_holds fired mid i in
    subst (After w e fired i h) (sym at)
    (⊎_elim
    (λ same. subst (λ (n : ℕ). After w e fired n h (holds mid n)) (sym same)
    (injected_after w declared table after fired m image version dt word old mid legal.1 h (ap (holds old) (sym same) ∙ had)))
    (λ other. inl (kept_itself (holds mid i) h (injected_other declared table after fired image version i old mid legal.1 other ∙ had)))
    (cases_eq i image))

-- ---- every item

module _ (past : Past) (w v : World) (x : Step) where
  keeps_by : (D : Does) → (IsBlown D x → IsBlown (does w x.event) x) → (reported : Bool) → LegalDoes D past w x v → KeepsItem (Applies x reported) w v
  keeps_by (Refuses why) blown reported legal m i h had = inl (kept_itself (holds (small_mote_at (small v) m) i) h (ap (λ (s : Small). holds (small_mote_at s m) i) legal ∙ had))
  keeps_by (Goes d) blown reported legal m i h had =
      let new = holds (small_mote_at (small v) m) i in
      ⊎_elim
      (λ same.
      let here : holds (small_mote_at (small w) (mote_of x.event)) i ≡ Some h = ap (λ (n : ℕ). holds (small_mote_at (small w) n) i) (sym same) ∙ had in
      let after = at_mote past w w.declared w.table (blows x.cut d.trail) x.event (small_mote_at (small w) (mote_of x.event)) (small_mote_at (small v) (mote_of x.event)) v.table i h legal.there here in
      let back : holds (small_mote_at (small v) (mote_of x.event)) i ≡ new = ap (λ (n : ℕ). holds (small_mote_at (small v) n) i) (sym same) in
      ⊎_elim
      (λ kept. inl (subst (λ (o : Option Holding). IsKeptIn o h) back kept))
      (λ lost. inr (record { none = sym back ∙ lost.0; at = same; newer = lost.1; cut = blown lost.2 }))
      after)
      (λ other. inl (kept_itself new h (ap (λ (y : SmallMote). holds y i) (legal.others m other) ∙ had)))
      (cases_eq m (mote_of x.event))

keeps_item : (past : Past) (item : Item) (w v : World) → LegalItem item past w v → KeepsItem item w v
keeps_item past (Declares row) w v legal = λ m i h had. kept_itself (holds (small_mote_at (small v) m) i) h (ap (λ (s : Small). holds (small_mote_at s m) i) legal ∙ had)
keeps_item past (Applies x reported) w v legal = keeps_by past w v x (does w x.event) (λ b. b) reported legal

pub keeps_all : (past : List Played) (p : Played) → IsLegal past p → KeepsAll p
keeps_all past p legal = keeps_item (past_of past) p.item p.before p.after legal

-- ---- golden

golden_at : (past : Past) (wide : Bool) (frame : Option (List ℕ)) (declared table : List Row) (fired : Bool) (e : Event) (old new : SmallMote) (after : List Row) → LegalAt (step_facts past declared fired wide frame) table e old new after → holds new 0 ≡ holds old 0
golden_at past wide frame declared table fired (Tick m dt word) old new after legal = tick_holds table fired old new 0 legal.1
golden_at past wide frame declared table fired (Reset m dt word) old new after legal = reset_holds table fired old new 0 legal.0
golden_at past wide frame declared table fired (OrderEvent m number image version dt word) old new after legal = order_holds fired (record { number = number; image = image; version = version }) old new legal.0 0 legal.1 legal.2
golden_at past wide frame declared table fired (Hear m dt word number) old new after legal = golden_frame wide frame past fired m old legal.1 new legal.2 legal.3
golden_at past wide frame declared table fired (Last from m dt word) old new after legal = golden_frame wide frame past fired m old legal.1 new legal.2 legal.3
golden_at past wide frame declared table fired (Frame m dt word bytes) old new after legal = golden_frame wide frame past fired m old legal.1 new legal.2 legal.3
golden_at past wide frame declared table fired (Inject m image version dt word) old new after legal =
    let mid = legal.0 in
    let known = legal.1.known in
    ap (λ (x : SmallMote). holds x 0) legal.2 ∙ off_holds fired mid 0 ∙ injected_other declared table after fired image version 0 old mid legal.1 (λ e. absurd (omega (arith, e, known)))

golden_by : (past : Past) (w v : World) (x : Step) (D : Does) → LegalDoes D past w x v → (m : ℕ) → holds (small_mote_at (small v) m) 0 ≡ holds (small_mote_at (small w) m) 0
golden_by past w v x (Refuses why) legal m = ap (λ (s : Small). holds (small_mote_at s m) 0) legal
golden_by past w v x (Goes d) legal m =
    ⊎_elim
    (λ same. subst (λ (n : ℕ). holds (small_mote_at (small v) n) 0 ≡ holds (small_mote_at (small w) n) 0) (sym same)
    (golden_at past (wide_at w (mote_of x.event)) (brought w x.event) w.declared w.table (blows x.cut d.trail) x.event (small_mote_at (small w) (mote_of x.event)) (small_mote_at (small v) (mote_of x.event)) v.table legal.there))
    (λ other. ap (λ (y : SmallMote). holds y 0) (legal.others m other))
    (cases_eq m (mote_of x.event))

golden_item : (past : Past) (item : Item) (w v : World) → LegalItem item past w v → (m : ℕ) → holds (small_mote_at (small v) m) 0 ≡ holds (small_mote_at (small w) m) 0
golden_item past (Declares row) w v legal m = ap (λ (s : Small). holds (small_mote_at s m) 0) legal
golden_item past (Applies x reported) w v legal m = golden_by past w v x (does w x.event) legal m

pub golden_stays : (past : List Played) (p : Played) → IsLegal past p → GoldenStays p
golden_stays past p legal = golden_item (past_of past) p.item p.before p.after legal
