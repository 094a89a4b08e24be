-- Lists of what is seen, and how looks end.
use Rattle.std.proofs.Common.{◌≡◌, ℕ, ◌+◌, ◌-◌, ◌<◌, ◌≤◌, replicate, take, List, [], ◌∷◌, ◌++◌, length, get_or, sym, ap, subst, ◌∙◌, arith, below_more, Result, Ok, Err, IsErrAnd}
use Rattle.std.proofs.lemmas.List.{take_all, get_or_append_left, get_or-append-add}
use Rattle.dg_nor.specs.Sizes.{chip_size}
use Rattle.dg_nor.specs.Chip.{blank}
use Rattle.dg_inspect.proofs.FilledLemmas.{filled}
use Rattle.dg_nor.specs.Device.{Device}
use Rattle.dg_nor.specs.Reads.{Looked, ReadStopped}
use Rattle.dg_nor.proofs.ReadLemmas.{Looked_then, ReadStopped_after}
use Rattle.dg_inspect.specs.Seen.{LookEnds}
use Rattle.dg_inspect.specs.declared.seen.LookFault.{LookFault}
use Rattle.dg_inspect.specs.declared.seen.LookFault.TheVariants as faults

-- one more at the end
pub each_more : {A : Type 0} (P : ℕ → A → Type 0) (xs : List A) (x d : A) (n : ℕ) → length xs ≡ n → ((i : ℕ) → i < n → P i (get_or xs i d)) → P n x → (i : ℕ) → i < n + 1 → P i (get_or (xs ++ x ∷ []) i d)
each_more P xs x d n count each here =
    let place : n ≡ length xs + 0 = omega (arith, count) in
    let last : get_or (xs ++ x ∷ []) n d ≡ x = ap (λ k. get_or (xs ++ x ∷ []) k d) place ∙ get_or-append-add xs (x ∷ []) 0 d in
    below_more (λ i. P i (get_or (xs ++ x ∷ []) i d)) n
    (λ i low. subst (P i) (sym (get_or_append_left xs (x ∷ []) d i (omega (arith, count, low)))) (each i low))
    (subst (P n) (sym last) here)

-- ---- ends

pub look_after : {T : Type 0} (r : Result T LookFault) (a b c : Device) → Looked a b → LookEnds r b c → LookEnds r a c
look_after (Ok x) a b c p q = Looked_then p q
look_after (Err faults.Memory) a b c p q = Looked_then p q
look_after (Err faults.Stopped) a b c p q = ReadStopped_after p q

-- the chip stopped
pub look_stopped : {T : Type 0} (r : Result T LookFault) (a b : Device) → IsErrAnd r (λ e. e ≡ faults.Stopped) → ReadStopped a b → LookEnds r a b
look_stopped (Ok x) a b is stopped = absurd is
look_stopped {T} (Err e) a b is stopped = subst (λ (f : LookFault). LookEnds {T = T} (Err f) a b) (sym is) stopped

failed_after : (T U : Type 0) (e : LookFault) (a b c : Device) → Looked a b → LookEnds {T = T} (Err e) b c → LookEnds {T = U} (Err e) a c
failed_after T U faults.Memory a b c p q = Looked_then p q
failed_after T U faults.Stopped a b c p q = ReadStopped_after p q

-- a look that failed after reads
pub look_fails_after : {T U : Type 0} (r : Result U LookFault) (q : Result T LookFault) (e : LookFault) (a b c : Device) → IsErrAnd r (λ f. f ≡ e) → q ≡ Err e → Looked a b → LookEnds q b c → LookEnds r a c
look_fails_after (Ok x) q e a b c is was looked ends = absurd is
look_fails_after {T} {U} (Err f) q e a b c is was looked ends =
    let here : LookEnds {T = T} (Err e) b c = subst (λ (z : Result T LookFault). LookEnds z b c) was ends in
    subst (λ (g : LookFault). LookEnds {T = U} (Err g) a c) (sym is) (failed_after T U e a b c looked here)

-- ---- bytes that are lengthened to those of a chip

pub lengthened : (bytes held all : List ℕ) (n len : ℕ) → n ≡ chip_size → len ≡ length held → length bytes ≤ chip_size → held ≡ bytes → all ≡ take n held ++ replicate (n - len) 255 → all ≡ filled bytes
unfolding filled blank
lengthened bytes held all n len size count most e f =
    let fits : length bytes ≤ n = omega (arith, size, most) in
    let long : len ≡ length bytes = count ∙ ap length e in
    f ∙ ap (λ (xs : List ℕ). take n xs ++ replicate (n - len) 255) e ∙ ap (λ (xs : List ℕ). xs ++ replicate (n - len) 255) (take_all n bytes fits)
    ∙ ap (λ k. bytes ++ replicate (n - k) 255) long ∙ ap (λ k. bytes ++ replicate (k - length bytes) 255) size
