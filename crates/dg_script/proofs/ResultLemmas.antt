-- Values that follow from others, and values that tests guard.
use Rattle.std.proofs.Common.{◌≡◌, Bool, true, false, if◌then◌else◌, Option, Some, None, Result, Ok, Err, refl, subst}
use Rattle.dg_script.specs.Results.{◌>>?◌, kept_if, ◌>>=◌, guarded, or_fault}
use Rattle.dg_script.specs.declared.fault.LineFault.{LineFault}

-- ---- optional values

pub bound_some : {A B : Type 0} (o : Option A) (f : A → Option B) (y : B) → (o >>? f) ≡ Some y → (x : A) × (o ≡ Some x) × (f x ≡ Some y)
bound_some (Some x) f y h = (x, refl, h)
bound_some None f y h = cc

pub kept_some : {A : Type 0} (test : Bool) (x y : A) → kept_if test x ≡ Some y → (test ≡ true) × (x ≡ y)
kept_some true x y h = (refl, cc)
kept_some false x y h = cc

pub behind_test : {A : Type 0} (test : Bool) (o : Option A) (y : A) → (if test then o else None) ≡ Some y → o ≡ Some y
behind_test true o y h = h
behind_test false o y h = cc

-- ---- values or faults

pub bound : {A B : Type 0} (r : Result A LineFault) (f : A → Result B LineFault) (y : B) → (r >>= f) ≡ Ok y → (x : A) × (r ≡ Ok x) × (f x ≡ Ok y)
bound (Ok x) f y h = (x, refl, h)
bound (Err e) f y h = cc

pub guarded_ok : {A : Type 0} (test : Bool) (fault : LineFault) (x y : A) → guarded test fault x ≡ Ok y → (test ≡ true) × (x ≡ y)
guarded_ok true fault x y h = (refl, cc)
guarded_ok false fault x y h = cc

pub or_fault_ok : {A : Type 0} (fault : LineFault) (o : Option A) (y : A) → or_fault fault o ≡ Ok y → o ≡ Some y
or_fault_ok fault (Some x) y h = cc
or_fault_ok fault None y h = cc

-- what a test says of the value that it guards
pub tested : {A : Type 0} (test : Bool) (fault : LineFault) (x y : A) (P : A → Type 0) → guarded test fault x ≡ Ok y → (test ≡ true → P x) → P y
tested test fault x y P h holds =
    let here = guarded_ok test fault x y h in
    subst P here.1 (holds here.0)
