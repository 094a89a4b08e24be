-- Reads and writes one after another.
use Rattle.std.proofs.Common.{◌≡◌, ℕ, List, [], ◌++◌, length, Option, None, Some, refl, sym, ap, ◌∙◌, arith}
use Rattle.std.proofs.lemmas.List.{append-nil, append_assoc, take_all}
use Rattle.dg_base.specs.Outside.{ahead_of, followed_by, Takes, Puts, PutsPrefix, AtEnd}

-- Taking no byte leaves what was there.
pub Takes-nil : (a : Option (List ℕ)) → Takes a a []
Takes-nil None = refl
Takes-nil (Some bytes) = refl

-- Two takes in a row take the bytes of both.
pub Takes-join : (a b c : Option (List ℕ)) (x y : List ℕ) → Takes a b x → Takes b c y → Takes a c (x ++ y)
Takes-join a b None x y p q = p ∙ ap (ahead_of x) q
Takes-join a b (Some rest) x y p q = p ∙ ap (ahead_of x) q ∙ ap Some (sym (append_assoc x y rest))

-- What a take did to an input that exposes its bytes, and to one that does not.
pub Takes-told : (all bytes : List ℕ) (after : Option (List ℕ)) → Takes (Some all) after bytes → (rest : List ℕ) × (all ≡ bytes ++ rest) × (after ≡ Some rest)
Takes-told all bytes None p = cc
Takes-told all bytes (Some rest) p = (rest, cc, refl)

pub Takes-untold : (bytes : List ℕ) (after : Option (List ℕ)) → Takes None after bytes → after ≡ None
Takes-untold bytes None p = refl
Takes-untold bytes (Some rest) p = cc

-- A take that leaves nothing took all that was left.
pub Takes-all : (all bytes : List ℕ) (after : Option (List ℕ)) → Takes (Some all) after bytes → AtEnd after → all ≡ bytes
Takes-all all bytes None p e = cc
Takes-all all bytes (Some rest) p e = (let h : all ≡ bytes ++ rest = cc in h) ∙ ap (λ l. bytes ++ l) e ∙ append-nil bytes

-- Putting no byte leaves what was there.
pub Puts-nil : (a : Option (List ℕ)) → Puts a a []
Puts-nil None = refl
Puts-nil (Some bytes) = ap Some (sym (append-nil bytes))

-- Two puts in a row put the bytes of both.
pub Puts-join : (a b c : Option (List ℕ)) (x y : List ℕ) → Puts a b x → Puts b c y → Puts a c (x ++ y)
Puts-join None b c x y p q = q ∙ ap (λ o. followed_by o y) p
Puts-join (Some bytes) b c x y p q = q ∙ ap (λ o. followed_by o y) p ∙ ap Some (append_assoc bytes x y)

-- A put of all bytes, and one of no bytes, are both puts of a prefix.
pub PutsPrefix-all : (a b : Option (List ℕ)) (x : List ℕ) → Puts a b x → PutsPrefix a b x
PutsPrefix-all a b x p = (length x, omega arith, p ∙ ap (followed_by a) (sym (take_all (length x) x (omega arith))))

pub PutsPrefix-nil : (a : Option (List ℕ)) (x : List ℕ) → PutsPrefix a a x
PutsPrefix-nil a x = (0, omega arith, Puts-nil a)
