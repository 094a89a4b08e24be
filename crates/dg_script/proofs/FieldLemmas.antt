-- The fields of a line that are read are in their ranges, and are what was spelled.
use Rattle.std.proofs.Common.{◌≡◌, ◌≢◌, ℕ, ◌<◌, ◌≤◌, ◌^◌, ◌==◌, ◌&&◌, not, nat_le, nat_lt, Bool, true, false, List, length, Result, Ok, refl, sym, ap, subst, arith}
use Rattle.std.specs.Coded.{le_prop}
use Rattle.std.proofs.lemmas.Bool.{leb-true, le-leb, ltb-true, eqb-false, not-true}
use Rattle.std.proofs.lemmas.Bool.Decides.{nat_tests}
use Rattle.dg_words.specs.Cells.{AreBytes}
use Rattle.dg_base.specs.Numbers.{number_of}
use Rattle.dg_base.specs.Hexadecimal.{hex_bytes}
use Rattle.dg_base.specs.Texts.{spells_name}
use Rattle.dg_base.specs.Sizes.{longest_mask}
use Rattle.dg_base.specs.declared.events.Cut.{Cut as CutOfPower}
use Rattle.dg_script.specs.Results.{or_fault}
use Rattle.dg_script.specs.Words.{two_of}
use Rattle.dg_script.specs.Contents.{spelled_name, content_of, sized, sized_content, spelled_mask}
use Rattle.dg_script.specs.Verbs.{stands, standing}
use Rattle.dg_script.specs.Fields.{number_in, ranged_in, mote_in, other_in, counted_in}
use Rattle.dg_script.specs.Lines.{most_by, at_most, cut_with, cut_of}
use Rattle.dg_script.specs.declared.fault.LineFault.{LineFault}
use Rattle.dg_script.specs.declared.fault.LineFault.TheVariants as fault
use Rattle.dg_script.specs.declared.line.Line.TheVariants.{Cut}
use Rattle.dg_script.specs.declared.place.Place.{Place}
use Rattle.dg_script.specs.declared.verbs.Verb.TheVariants as verb
use Rattle.dg_script.proofs.ResultLemmas.{bound, guarded_ok, or_fault_ok, tested}
use Rattle.dg_script.proofs.ContentLemmas.{contents_are_bytes, hex_are_bytes, number_fits}

pub same_of_ok : {A : Type 0} (x y : A) (r s : Result A LineFault) → r ≡ Ok x → s ≡ Ok y → r ≡ s → x ≡ y
same_of_ok x y r s p q h = cc

-- ---- cuts

most_by-ok : (low high : ℕ) (holds : Bool) (e : nat_le low high ≡ holds) (fault : LineFault) (p : low ≤ high) → most_by low high holds e fault ≡ Ok p
most_by-ok low high true e fault p = ap (λ (q : low ≤ high). Ok q) (le_prop (leb-true low high e) p)
most_by-ok low high false e fault p = let yes_it_is : nat_le low high ≡ true = le-leb low high p in cc

at_most-ok : (low high : ℕ) (fault : LineFault) (p : low ≤ high) → at_most low high fault ≡ Ok p
at_most-ok low high fault p = most_by-ok low high (nat_le low high) refl fault p

pub cut_with-ok : (cut : CutOfPower) → cut_with cut.after cut.mask ≡ Ok cut
unfolding cut_with
cut_with-ok cut =
    rw (at_most-ok 1 cut.after fault.Number cut.numbered, at_most-ok 1 (length cut.mask) fault.Mask cut.some, at_most-ok (length cut.mask) longest_mask fault.Mask cut.within) refl

-- a cut whose fields are read
pub cut_of-read : (place : Place) (fields : List (List ℕ)) (operation digits : List ℕ) (cut : CutOfPower) → two_of fields ≡ Ok (operation, digits) → standing verb.Cut place ≡ Ok (tt {0})
    → counted_in operation ≡ Ok cut.after → spelled_mask digits ≡ Ok cut.mask → cut_of place fields ≡ Ok (Cut cut)
unfolding cut_of
cut_of-read place fields operation digits cut words stands after mask = rw (words, stands, after, mask, cut_with-ok cut) refl

pub cut_with-is : (after : ℕ) (mask : List ℕ) (cut : CutOfPower) → cut_with after mask ≡ Ok cut → (cut.after ≡ after) × (cut.mask ≡ mask)
unfolding cut_with
cut_with-is after mask cut h =
    let numbered = bound (at_most 1 after fault.Number) _ cut h in
    let some = bound (at_most 1 (length mask) fault.Mask) _ cut numbered.2 in
    let within = bound (at_most (length mask) longest_mask fault.Mask) _ cut some.2 in
    let made : CutOfPower = record { after = after; mask = mask; numbered = numbered.0; some = some.0; within = within.0 } in
    let e : made ≡ cut = cc in
    (ap (λ (x : CutOfPower). x.after) (sym e), ap (λ (x : CutOfPower). x.mask) (sym e))

-- ---- fields

pub number_in-fits : (word : List ℕ) (n : ℕ) → number_in word ≡ Ok n → n < 2 ^ 32
unfolding number_in
number_in-fits word n h = number_fits word n (or_fault_ok fault.Number (number_of word) n h)

pub within : (least n most : ℕ) → (nat_le least n && nat_le n most) ≡ true → (least ≤ n) × (n ≤ most)
within least n most h = (grind (arith, nat_tests), grind (arith, nat_tests))

pub ranged_in-within : (fault : LineFault) (least most : ℕ) (word : List ℕ) (n : ℕ) → ranged_in fault least most word ≡ Ok n → (least ≤ n) × (n ≤ most)
unfolding ranged_in
ranged_in-within fault least most word n h =
    let read = bound (number_in word) _ n h in
    tested (nat_le least read.0 && nat_le read.0 most) fault read.0 n (λ m. (least ≤ m) × (m ≤ most)) read.2 (within least read.0 most)

pub mote_in-below : (motes : ℕ) (word : List ℕ) (n : ℕ) → mote_in motes word ≡ Ok n → n < motes
unfolding mote_in
mote_in-below motes word n h =
    let read = bound (number_in word) _ n h in
    tested (nat_lt read.0 motes) fault.Mote read.0 n (λ m. m < motes) read.2 (ltb-true read.0 motes)

pub other_in-other : (motes mote : ℕ) (word : List ℕ) (n : ℕ) → other_in motes mote word ≡ Ok n → (n < motes) × (n ≢ mote)
unfolding other_in
other_in-other motes mote word n h =
    let read = bound (mote_in motes word) _ n h in
    let below = mote_in-below motes word read.0 read.1 in
    tested (not (read.0 == mote)) fault.Mote read.0 n (λ m. (m < motes) × (m ≢ mote)) read.2 (λ other. (below, eqb-false read.0 mote (not-true _ other)))

pub name_of-name : (word name : List ℕ) → spelled_name word ≡ Ok name → spells_name name ≡ true
unfolding spelled_name
name_of-name word name h = tested (spells_name word) fault.Name word name (λ n. spells_name n ≡ true) h (λ here. here)

-- bytes have their sizes
sized-within : (fault : LineFault) (least most : ℕ) (bytes kept : List ℕ) → sized fault least most bytes ≡ Ok kept → (bytes ≡ kept) × (least ≤ length kept) × (length kept ≤ most)
sized-within fault least most bytes kept h =
    let here = guarded_ok (nat_le least (length bytes) && nat_le (length bytes) most) fault bytes kept h in
    let P : List ℕ → Type 0 = λ b. (least ≤ length b) × (length b ≤ most) in
    let there = subst P here.1 (within least (length bytes) most here.0) in
    (here.1, there.0, there.1)

pub record IsContent (least most : ℕ) (content : List ℕ) : Type 0 where
  pub low : least ≤ length content
  pub high : length content ≤ most
  pub bytes : AreBytes content

pub sized_content-is : (least most : ℕ) (word bytes : List ℕ) → sized_content least most word ≡ Ok bytes → IsContent least most bytes
unfolding sized_content
sized_content-is least most word bytes h =
    let read = bound (or_fault fault.Content (content_of word)) _ bytes h in
    let size = sized-within fault.Content least most read.0 bytes read.2 in
    record { low = size.1; high = size.2; bytes = subst AreBytes size.0 (contents_are_bytes word read.0 (or_fault_ok fault.Content (content_of word) read.0 read.1)) }

pub mask_of-bytes : (word bytes : List ℕ) → spelled_mask word ≡ Ok bytes → AreBytes bytes
unfolding spelled_mask
mask_of-bytes word bytes h =
    let read = bound (or_fault fault.Mask (hex_bytes word)) _ bytes h in
    let size = sized-within fault.Mask 1 longest_mask read.0 bytes read.2 in
    subst AreBytes size.0 (hex_are_bytes word read.0 (or_fault_ok fault.Mask (hex_bytes word) read.0 read.1))
