-- The outcome of wrapping a payload.
use Rattle.std.proofs.Common.{◌≡◌, ℕ, ◌<◌, ◌≤◌, Bool, true, false, List, [], length, Result, Ok, Err, IsErrAnd, refl, sym, ap, subst, ◌∙◌, arith, cond}
use Rattle.std.specs.Prelude.{◌==◌, nat_lt}
use Rattle.std.proofs.lemmas.Bool.Decides.{nat_tests}
use Rattle.dg_words.specs.Counts.{Rose}
use Rattle.dg_base.specs.Sizes.{most_input}
use Rattle.dg_base.specs.Outside.{AtEnd}
use Rattle.dg_chain.specs.Chain.{IsPayload, most_payload}
use Rattle.dg_chain.specs.declared.wrapping.WrapFault.{WrapFault}
use Rattle.dg_chain.specs.declared.wrapping.WrapFault.TheVariants as wrap_fault
use Rattle.dg_outside.specs.Outside.{InputState}
use Rattle.dg_end.specs.Conversions.{end_of_wrap}
use Rattle.dg_end.specs.Lines.{Outcome, text_outcome}
use Rattle.dg_end.specs.declared.ends.End.{End}
use Rattle.dg_end.specs.declared.ends.End.TheVariants as ends
use Rattle.dg_end.specs.declared.refusal.Refusal.TheVariants as refusals
use Rattle.dg_tool.specs.Endings.{VerbEnding, Before, Acting, outcome_of, by_input}
use Rattle.dg_tool.specs.Input.{ReadsImage, ImageRead, end_of_image}
use Rattle.dg_tool.specs.declared.input.ImageFault.{ImageFault}
use Rattle.dg_tool.specs.declared.input.ImageFault.TheVariants as image_fault
use Rattle.dg_tool.proofs.OutcomeLemmas.{at_end}
use Rattle.dg_tool.proofs.InputLemmas.{by_over, input_image, input_fault, part_read, whole_read, reads_none}
use Rattle.dg_chain_tool.specs.Verbs.{wrap_by}
use Rattle.dg_chain_tool.specs.inner.Words.{wrapped_text}
use Rattle.dg_chain_tool.specs.Done.{TextComes, FedText}

none_test : (n : ℕ) → n ≡ 0 → (n == 0) ≡ true
none_test n h = grind (arith, nat_tests)

some_test : (n : ℕ) → 1 ≤ n → (n == 0) ≡ false
some_test n h = grind (arith, nat_tests)

large_test : (most n : ℕ) → most < n → nat_lt most n ≡ true
large_test most n h = grind (arith, nat_tests)

fits_test : (most n : ℕ) → n ≤ most → nat_lt most n ≡ false
fits_test most n h = grind (arith, nat_tests)

by_tests : (b d : Bool) → List ℕ → VerbEnding
by_tests b d x = cond b (Before (ends.Refused refusals.Empty)) (cond d (Before (ends.Refused (refusals.TooLarge (length x)))) (Acting (Ok (wrapped_text x))))

pub wrap_empty : (x : List ℕ) → length x ≡ 0 → wrap_by x ≡ Before (ends.Refused refusals.Empty)
unfolding by_tests
wrap_empty x e = ap (λ (b : Bool). by_tests b (nat_lt most_payload (length x)) x) (none_test (length x) e)

pub wrap_large : (x : List ℕ) (n : ℕ) → most_payload < length x → n ≡ length x → wrap_by x ≡ Before (ends.Refused (refusals.TooLarge n))
unfolding by_tests
wrap_large x n large e =
    ap (λ (b : Bool). by_tests b (nat_lt most_payload (length x)) x) (some_test (length x) (omega (arith, large)))
    ∙ ap (λ (d : Bool). by_tests false d x) (large_test most_payload (length x) large)
    ∙ ap (λ (k : ℕ). Before (ends.Refused (refusals.TooLarge k))) (sym e)

pub wrap_fits : (x : List ℕ) → IsPayload x → wrap_by x ≡ Acting (Ok (wrapped_text x))
unfolding by_tests
wrap_fits x is =
    ap (λ (b : Bool). by_tests b (nat_lt most_payload (length x)) x) (some_test (length x) is.some)
    ∙ ap (λ (d : Bool). by_tests false d x) (fits_test most_payload (length x) is.most)

-- ---- the input gave no image

text_none : (next : List ℕ → VerbEnding) (bytes : List ℕ) (fault : ImageFault) (at_end failed : Type 0) → ReadsImage {T = ℕ} (λ n. []) (Err fault) bytes at_end failed → TextComes (Err (end_of_image fault)) (by_input bytes next) failed
text_none next bytes image_fault.Memory at_end failed h = tt
text_none next bytes image_fault.ReadFault at_end failed h = h
text_none next bytes image_fault.TooLong at_end failed h = ap outcome_of (sym (by_over most_input bytes next h.0))
text_none next bytes (image_fault.BadHex fault) at_end failed h = ap outcome_of (sym (input_fault bytes fault next h.0 h.1))

pub fed_none : {T : Type 0} (view : T → List ℕ) (next : List ℕ → VerbEnding) (fault : ImageFault) (a b : InputState) → ImageRead {T = T} view (Err fault) a b → FedText (Err (end_of_image fault)) next a b
fed_none view next fault a b h = record {
  bytes = h.bytes;
  read = part_read view fault 1 a b (omega arith) h;
  comes = text_none next h.bytes fault (AtEnd b.left) (Rose a.reads b.reads) (reads_none view fault h.bytes (AtEnd b.left) (Rose a.reads b.reads) h.reads);
}

-- ---- or it gave one

fed_text : {T : Type 0} (view : T → List ℕ) (next : List ℕ → VerbEnding) (image : T) (outcome : Outcome) (a b : InputState) → (h : ImageRead view (Ok image) a b) → TextComes outcome (next (view image)) (Rose a.reads b.reads) → FedText outcome next a b
fed_text view next image outcome a b h comes = record {
  bytes = h.bytes;
  read = whole_read view image outcome 1 a b (omega arith) h;
  comes = subst (λ (e : VerbEnding). TextComes outcome e (Rose a.reads b.reads)) (sym (input_image h.bytes (view image) next h.reads.0 h.reads.1)) comes;
}

pub fed_wants : {T : Type 0} (view : T → List ℕ) (next : List ℕ → VerbEnding) (image : T) (a b : InputState) → ImageRead view (Ok image) a b → FedText (Err ends.Memory) next a b
fed_wants view next image a b h = fed_text view next image (Err ends.Memory) a b h tt

pub fed_made : {T : Type 0} (view : T → List ℕ) (image : T) (text : List ℕ) (a b : InputState) → ImageRead view (Ok image) a b → IsPayload (view image) → text ≡ wrapped_text (view image) → FedText (Ok text) wrap_by a b
fed_made view image text a b h is told = fed_text view wrap_by image (Ok text) a b h (ap (λ (t : List ℕ). Ok t) told ∙ ap outcome_of (sym (wrap_fits (view image) is)))

wraps_fault : (fault : WrapFault) (x : List ℕ) (failed : Type 0) → (fault ≡ wrap_fault.Empty → length x ≡ 0) → ((n : ℕ) → fault ≡ wrap_fault.TooLarge n → (most_payload < length x) × (n ≡ length x)) → TextComes (Err (end_of_wrap fault)) (wrap_by x) failed
wraps_fault wrap_fault.Memory x failed none over = tt
wraps_fault wrap_fault.Empty x failed none over = ap outcome_of (sym (wrap_empty x (none refl)))
wraps_fault (wrap_fault.TooLarge n) x failed none over = ap outcome_of (sym (wrap_large x n (over n refl).0 (over n refl).1))

pub fed_fault : {T : Type 0} (view : T → List ℕ) (image : T) (fault : WrapFault) (a b : InputState) → ImageRead view (Ok image) a b → (fault ≡ wrap_fault.Empty → length (view image) ≡ 0) → ((n : ℕ) → fault ≡ wrap_fault.TooLarge n → (most_payload < length (view image)) × (n ≡ length (view image)))
    → FedText (Err (end_of_wrap fault)) wrap_by a b
fed_fault view image fault a b h none over = fed_text view wrap_by image (Err (end_of_wrap fault)) a b h (wraps_fault fault (view image) (Rose a.reads b.reads) none over)

-- ---- the exit of a `?`

pub at_text : {T : Type 0} (view : T → List ℕ) (r : Result T End) (e : End) (next : List ℕ → VerbEnding) (a b : InputState) → IsErrAnd r (λ x. x ≡ e) → FedText (Err e) next a b → FedText (text_outcome view r) next a b
at_text view r e next a b is h = at_end view (λ outcome. FedText outcome next a b) r e is h
