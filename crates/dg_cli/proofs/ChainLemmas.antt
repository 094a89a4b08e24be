-- What the commands of hash-chained images did, from the contracts of their calls.
use Rattle.std.proofs.Common.{◌≡◌, ℕ, Bool, true, false, ◌&&◌, List, Some, refl, sym, ap, subst}
use Rattle.std.specs.Prelude.{[], Option, unwrap_or}
use Rattle.dg_base.specs.Hexadecimal.{hex_bytes}
use Rattle.dg_base.specs.declared.answers.Status.{Status}
use Rattle.dg_outside.specs.Outside.{Outside}
use Rattle.dg_chain_tool.specs.Done.{ReceiveDone}
use Rattle.dg_cli.specs.Chained.{root_in, Checked}

-- ---- check

pub checked : (image : ℕ) (told root : List ℕ) (status : Status) (a b : Outside) → told ≡ root → Checked image told status a b → Checked image root status a b
checked image told root status a b e h = subst (λ (r : List ℕ). Checked image r status a b) e h

-- ---- receive

pub received : (image version : ℕ) (name told root : List ℕ) (status : Status) (a b : Outside) → told ≡ root → ReceiveDone image version name told status a b → ReceiveDone image version name root status a b
received image version name told root status a b e h = subst (λ (r : List ℕ). ReceiveDone image version name r status a b) e h

-- ---- the digits of a root

pub root_told : (digits bytes : List ℕ) → hex_bytes digits ≡ Some bytes → bytes ≡ root_in digits
root_told digits bytes e = sym (ap (λ (o : Option (List ℕ)). unwrap_or o []) e)

pub both_front : (a b : Bool) → (a && b) ≡ true → a ≡ true
both_front true b e = refl
both_front false b e = e

pub both_back : (a b : Bool) → (a && b) ≡ true → b ≡ true
both_back true b e = e
both_back false b e = let f : false ≡ true = e in absurd cc
