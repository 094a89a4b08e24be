-- What is written after what was written before.
use Rattle.std.proofs.Common.{◌≡◌, ℕ, ◌≤◌, List, [], ◌++◌, length, take, drop, refl, ap, sym, ◌∙◌, append_assoc, append-nil, arith}
use Rattle.std.specs.Prelude.{Option, Some, None}
use Rattle.std.proofs.lemmas.List.{take-append-drop}
use Rattle.dg_base.specs.Sizes.{longest_frame}
use Rattle.dg_serial.specs.Line.{IsOnLine}
use Rattle.dg_base.specs.Outside.{followed_by, Puts, PutsPrefix}
use Rattle.dg_serial_base.specs.inner.Words.{IsPrefixOfInput}

-- a frame with some bytes, and no more than a frame may have, is one that fits the line
pub on_line : (frame : List ℕ) → 1 ≤ length frame → length frame ≤ longest_frame → IsOnLine frame
on_line frame some most = record { some = λ none. absurd (omega (arith, some, ap length none)); most = most }

pub puts_nothing : (a : Option (List ℕ)) → Puts a a []
puts_nothing None = refl
puts_nothing (Some w) = ap (λ (x : List ℕ). Some x) (sym (append-nil w))

followed_twice : (a : Option (List ℕ)) (x y : List ℕ) → followed_by (followed_by a x) y ≡ followed_by a (x ++ y)
followed_twice None x y = refl
followed_twice (Some w) x y = ap (λ (z : List ℕ). Some z) (append_assoc w x y)

pub puts_then : (a b c : Option (List ℕ)) (x y : List ℕ) → Puts a b x → Puts b c y → Puts a c (x ++ y)
puts_then a b c x y p q = q ∙ ap (λ (o : Option (List ℕ)). followed_by o y) p ∙ followed_twice a x y

-- some prefix of what was to be written
pub record Fronted (a c : Option (List ℕ)) (whole : List ℕ) : Type 0 where
  pub text : List ℕ
  pub put : Puts a c text
  pub front : IsPrefixOfInput text whole

pub puts_front_then : (a b c : Option (List ℕ)) (x y : List ℕ) → Puts a b x → PutsPrefix b c y → Fronted a c (x ++ y)
puts_front_then a b c x y p q =
    record {
      text = x ++ take q.0 y;
      put = puts_then a b c x (take q.0 y) p q.2;
      front = (drop q.0 y, append_assoc x (take q.0 y) (drop q.0 y) ∙ ap (λ (z : List ℕ). x ++ z) (take-append-drop q.0 y));
    }
