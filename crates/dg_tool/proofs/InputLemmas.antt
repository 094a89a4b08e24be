-- The outcome of reading an input.
use Rattle.std.proofs.Common.{◌≡◌, ◌≢◌, ◌≤◌, ◌<◌, ℕ, Bool, true, false, List, [], length, map, Option, Some, None, Result, Ok, Err, IsErrAnd, refl, sym, ap, subst, ◌∙◌, inl, arith, cond, ◌⊎◌}
use Rattle.std.specs.Prelude.{nat_lt}
use Rattle.std.proofs.lemmas.Bool.Decides.{nat_tests}
use Rattle.dg_words.specs.Counts.{Rose}
use Rattle.dg_base.specs.Sizes.{most_input}
use Rattle.dg_base.specs.Outside.{Takes, AtEnd}
use Rattle.dg_ihex.specs.Files.{hex_file}
use Rattle.dg_ihex.specs.declared.faults.HexFileFault.{HexFileFault}
use Rattle.dg_nor.specs.Device.{Device}
use Rattle.dg_nor.specs.Reads.{Looked}
use Rattle.dg_volume.specs.Store.{Store}
use Rattle.dg_nor.proofs.ReadLemmas.{Looked-none}
use Rattle.dg_outside.specs.Outside.{InputState}
use Rattle.dg_end.specs.Lines.{Outcome, text_outcome}
use Rattle.dg_end.specs.declared.ends.End.{End}
use Rattle.dg_end.specs.declared.ends.End.TheVariants as ends
use Rattle.dg_tool.specs.Endings.{VerbEnding, Before, outcome_of, by_file, by_input, content_in}
use Rattle.dg_tool.specs.inner.OnChip.{verb_by_boards}
use Rattle.dg_tool.specs.inner.OnChip.{content_by}
use Rattle.dg_tool.specs.Done.{VerbRule, verb_rule, ActsAs, NeedsInput, EndsAs, AtFirst, OnBoards, InputRead, FedBoards}
use Rattle.dg_tool.specs.Input.{ReadsImage, ImageRead, end_of_image}
use Rattle.dg_tool.specs.declared.input.ImageFault.{ImageFault}
use Rattle.dg_tool.specs.declared.input.ImageFault.TheVariants as image_fault
use Rattle.dg_tool.proofs.OutcomeLemmas.{at_end}
use Rattle.dg_tool.proofs.BoardLemmas.{none_mapped, by_some, no_boards}

lt_true : (k n : ℕ) → k < n → nat_lt k n ≡ true
lt_true k n h = grind (arith, nat_tests)

lt_false : (k n : ℕ) → n ≤ k → nat_lt k n ≡ false
lt_false k n h = grind (arith, nat_tests)

pub by_over : (most : ℕ) (input : List ℕ) (next : List ℕ → VerbEnding) → most < length input → cond (nat_lt most (length input)) (Before ends.TooLong) (by_file (hex_file input) next) ≡ Before ends.TooLong
by_over most input next h = ap (λ (b : Bool). cond b (Before ends.TooLong) (by_file (hex_file input) next)) (lt_true most (length input) h)

by_lines : (most : ℕ) (input : List ℕ) (next : List ℕ → VerbEnding) → length input ≤ most → cond (nat_lt most (length input)) (Before ends.TooLong) (by_file (hex_file input) next) ≡ by_file (hex_file input) next
by_lines most input next h = ap (λ (b : Bool). cond b (Before ends.TooLong) (by_file (hex_file input) next)) (lt_false most (length input) h)

pub input_image : (input image : List ℕ) (next : List ℕ → VerbEnding) → length input ≤ most_input → hex_file input ≡ Ok image → by_input input next ≡ next image
input_image input image next few e = by_lines most_input input next few ∙ ap (λ (r : Result (List ℕ) HexFileFault). by_file r next) e

pub input_fault : (input : List ℕ) (fault : HexFileFault) (next : List ℕ → VerbEnding) → length input ≤ most_input → hex_file input ≡ Err fault → by_input input next ≡ Before (ends.BadHex fault)
input_fault input fault next few e = by_lines most_input input next few ∙ ap (λ (r : Result (List ℕ) HexFileFault). by_file r next) e

-- ---- an ending that is found after the input was read is not that of a missing board

by_file_needs : (r : Result (List ℕ) HexFileFault) (next : List ℕ → VerbEnding) → ((image : List ℕ) → NeedsInput (next image)) → NeedsInput (by_file r next)
by_file_needs (Ok image) next h = h image
by_file_needs (Err fault) next h = tt

by_needs : (b : Bool) (r : Result (List ℕ) HexFileFault) (next : List ℕ → VerbEnding) → ((image : List ℕ) → NeedsInput (next image)) → NeedsInput (cond b (Before ends.TooLong) (by_file r next))
by_needs true r next h = tt
by_needs false r next h = by_file_needs r next h

-- ---- answers

pub ok_unlike : {T E : Type 0} (x : T) (e : E) → Ok x ≢ Err e
ok_unlike x e p = cc

abbrev pub failing : (T E : Type 0) → E → Result T E
failing T E e = Err e

pub err_inner : {T E : Type 0} (e f : E) → failing T E e ≡ failing T E f → e ≡ f
err_inner e f p = cc

none_short : (n : ℕ) → n ≡ 0 → 0 < n → ⊥
none_short n e some = omega (arith, e, some)

same_device : {A : Type 0} (x y : A) → Some x ≡ Some y → x ≡ y
same_device x y e = cc

-- ---- what was read

enough : (fault : ImageFault) (bytes : List ℕ) (at_end failed : Type 0) → ReadsImage {T = ℕ} (λ n. []) (Err fault) bytes at_end failed → failing (List ℕ) End (end_of_image fault) ≢ Err ends.Memory → failing (List ℕ) End (end_of_image fault) ≢ Err ends.ReadFault → at_end ⊎ (most_input < length bytes)
enough image_fault.Memory bytes at_end failed h nm nr = absurd (nm refl)
enough image_fault.ReadFault bytes at_end failed h nm nr = absurd (nr refl)
enough image_fault.TooLong bytes at_end failed h nm nr = h.1
enough (image_fault.BadHex fault) bytes at_end failed h nm nr = h.2

pub reads_none : {T : Type 0} (view : T → List ℕ) (fault : ImageFault) (bytes : List ℕ) (at_end failed : Type 0) → ReadsImage {T = T} view (Err fault) bytes at_end failed → ReadsImage {T = ℕ} (λ n. []) (Err fault) bytes at_end failed
reads_none view image_fault.Memory bytes at_end failed h = h
reads_none view image_fault.ReadFault bytes at_end failed h = h
reads_none view image_fault.TooLong bytes at_end failed h = h
reads_none view (image_fault.BadHex fault) bytes at_end failed h = h

fault_differs : (T : Type 0) (fault : ImageFault) → failing (List ℕ) End (end_of_image fault) ≢ Err ends.ReadFault → failing T ImageFault fault ≢ Err image_fault.ReadFault
fault_differs T fault other e = other (ap (λ x. Err (end_of_image x)) (err_inner {T = T} fault image_fault.ReadFault e))

-- it gave no image
pub part_read : {T : Type 0} (view : T → List ℕ) (fault : ImageFault) (n : ℕ) (a b : InputState) → 0 < n → (h : ImageRead {T = T} view (Err fault) a b) → InputRead (Err (end_of_image fault)) n h.bytes a b
part_read {T} view fault n a b some h = record {
  taken = h.taken;
  few_bytes = h.few_bytes;
  unread = λ e. absurd (none_short n e some);
  to_end = λ _ nm nr. enough fault h.bytes (AtEnd b.left) (Rose a.reads b.reads) (reads_none view fault h.bytes (AtEnd b.left) (Rose a.reads b.reads) h.reads) nm nr;
  read_faults = λ other. h.read_faults (fault_differs T fault other);
}

-- it gave an image, whatever is done with that
pub whole_read : {T : Type 0} (view : T → List ℕ) (image : T) (outcome : Outcome) (n : ℕ) (a b : InputState) → 0 < n → (h : ImageRead view (Ok image) a b) → InputRead outcome n h.bytes a b
whole_read view image outcome n a b some h = record {
  taken = h.taken;
  few_bytes = h.few_bytes;
  unread = λ e. absurd (none_short n e some);
  to_end = λ _ _ _. h.reads.2;
  read_faults = λ _. h.read_faults (ok_unlike image image_fault.ReadFault);
}

-- ---- an input that ends a verb

module _ (chips : Option Store → Type 0) (next : List ℕ → Option Store → VerbEnding) (acted halted : List ℕ → Option Store → Device → Device → Type 0) (needs : (image : List ℕ) (chip : Option Store) → NeedsInput (next image chip)) where
  -- what the rules of a verb make of the bytes of an input
  abbrev pub fed_rule : List ℕ → VerbRule
  fed_rule bytes = verb_rule chips (λ chip. by_input bytes (λ image. next image chip)) (acted (content_in bytes)) (halted (content_in bytes))

  module _ (bytes : List ℕ) (old : List Device) (some : 0 < length old) where
    found_board : (chip : Option Store) → verb_by_boards (length old) (by_input bytes (λ image. next image chip)) ≡ by_input bytes (λ image. next image chip)
    found_board chip = by_some (length old) (by_input bytes (λ image. next image chip)) some

    looked_none : AtFirst Looked old old
    looked_none a b was is = subst (λ (x : Device). Looked a x) (same_device a b (sym was ∙ is)) (Looked-none a)

    -- it ends the verb before the board is used
    before : (failed : Type 0) (end : End) → ((chip : Option Store) → by_input bytes (λ image. next image chip) ≡ Before end) → (chip : Option Store) → (Err end ≡ outcome_of (verb_by_boards (length old) (by_input bytes (λ image. next image chip)))) × ActsAs (verb_by_boards (length old) (by_input bytes (λ image. next image chip))) (old ≡ old) (AtFirst Looked old old) (AtFirst (acted (content_in bytes) chip) old old)
    before failed end is chip =
        let e = found_board chip ∙ is chip in
        (ap outcome_of (sym e), subst (λ (x : VerbEnding). ActsAs x (old ≡ old) (AtFirst Looked old old) (AtFirst (acted (content_in bytes) chip) old old)) (sym e) refl)

    pub input_stays : (fault : ImageFault) (at_end failed : Type 0) → ReadsImage {T = ℕ} (λ n. []) (Err fault) bytes at_end failed → OnBoards (Err (end_of_image fault)) (fed_rule bytes) failed old old
    input_stays image_fault.Memory at_end failed h = record {
      rules = λ chip _. inl looked_none;
      shows = tt;
      count = refl;
      others = refl;
    }
    input_stays image_fault.ReadFault at_end failed h = record {
      rules = λ chip _. (subst NeedsInput (sym (found_board chip)) (by_needs (nat_lt most_input (length bytes)) (hex_file bytes) (λ image. next image chip) (λ image. needs image chip)), refl);
      shows = (h, refl);
      count = refl;
      others = refl;
    }
    input_stays image_fault.TooLong at_end failed h = record {
      rules = λ chip _. before failed ends.TooLong (λ chip. by_over most_input bytes (λ image. next image chip) h.0) chip;
      shows = refl;
      count = refl;
      others = refl;
    }
    input_stays (image_fault.BadHex fault) at_end failed h = record {
      rules = λ chip _. before failed (ends.BadHex fault) (λ chip. input_fault bytes fault (λ image. next image chip) h.0 h.1) chip;
      shows = refl;
      count = refl;
      others = refl;
    }

    -- what is done with the image is done with the content of the input
    spelled : (outcome : Outcome) (failed : Type 0) (new : List Device) (image : List ℕ) → length bytes ≤ most_input → hex_file bytes ≡ Ok image → OnBoards outcome (verb_rule chips (next image) (acted image) (halted image)) failed old new → OnBoards outcome (fed_rule bytes) failed old new
    spelled outcome failed new image few is h =
        subst (λ (x : List ℕ). OnBoards outcome (verb_rule chips (λ chip. by_input bytes (λ i. next i chip)) (acted x) (halted x)) failed old new) (sym (ap content_by is))
        (record {
          rules = λ chip stands. subst (λ (x : VerbEnding). EndsAs outcome (verb_by_boards (length old) x) (new ≡ old) (AtFirst Looked old new) (AtFirst (acted image chip) old new) (AtFirst (halted image chip) old new)) (sym (input_image bytes image (λ i. next i chip) few is)) (h.rules chip stands);
          shows = h.shows;
          count = h.count;
          others = h.others;
        })

  -- the input gave no image
  pub fed_none : {T : Type 0} (view : T → List ℕ) (fault : ImageFault) (a b : InputState) (old : List Device) → 0 < length old → ImageRead {T = T} view (Err fault) a b → FedBoards (Err (end_of_image fault)) fed_rule a b old old
  fed_none {T} view fault a b old some h = record {
    bytes = h.bytes;
    read = part_read view fault (length old) a b some h;
    did = input_stays h.bytes old some fault (AtEnd b.left) (Rose a.reads b.reads) (reads_none view fault h.bytes (AtEnd b.left) (Rose a.reads b.reads) h.reads);
  }

  -- the verb went on with the image
  pub fed : {T : Type 0} (view : T → List ℕ) (image : T) (outcome : Outcome) (a b : InputState) (old new : List Device) → 0 < length old → ImageRead view (Ok image) a b → OnBoards outcome (verb_rule chips (next (view image)) (acted (view image)) (halted (view image))) (Rose a.reads b.reads) old new
      → FedBoards outcome fed_rule a b old new
  fed view image outcome a b old new some h did = record {
    bytes = h.bytes;
    read = whole_read view image outcome (length old) a b some h;
    did = spelled h.bytes old some outcome (Rose a.reads b.reads) new (view image) h.reads.0 h.reads.1 did;
  }

-- ---- there is no board

takes_none : (left : Option (List ℕ)) → Takes left left []
takes_none None = refl
takes_none (Some bytes) = refl

pub fed_nothing : {N : Type 0} (f : N → Device) (items : List N) (chips : Option Store → Type 0) (ending : List ℕ → Option Store → VerbEnding) (acted halted : List ℕ → Option Store → Device → Device → Type 0) (a : InputState) → length items ≡ 0
    → FedBoards (Err (ends.NoBoard 1 0)) (λ bytes. verb_rule chips (ending bytes) (acted bytes) (halted bytes)) a a (map f items) (map f items)
fed_nothing f items chips ending acted halted a none = record {
  bytes = [];
  read = record {
    taken = takes_none a.left;
    few_bytes = omega arith;
    unread = λ _. refl;
    to_end = λ some _ _. absurd (none_short (length (map f items)) (none_mapped f items none) some);
    read_faults = λ _. refl;
  };
  did = no_boards f items (Rose a.reads a.reads) chips (ending []) (acted []) (halted []) none;
}

-- ---- the exit of a `?`

pub at_fed : {T : Type 0} (view : T → List ℕ) (r : Result T End) (e : End) (rule : List ℕ → VerbRule) (a b : InputState) (old new : List Device) → IsErrAnd r (λ x. x ≡ e) → FedBoards (Err e) rule a b old new → FedBoards (text_outcome view r) rule a b old new
at_fed view r e rule a b old new is h = at_end view (λ outcome. FedBoards outcome rule a b old new) r e is h
