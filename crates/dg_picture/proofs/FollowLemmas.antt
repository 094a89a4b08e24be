-- Pictures that are shown one after another.
use Rattle.std.proofs.Common.{⊎_elim, inl, inr, ℕ, List, ◌++◌, Option, sym, ap, subst, ◌∙◌, append_assoc, take, drop}
use Rattle.std.proofs.lemmas.List.{take-append-drop}
use Rattle.dg_picture.specs.Drawn.{IsPicture}
use Rattle.dg_picture.specs.Followed.{Shows, ShowsFront, ShowsSome}

-- A prefix of bytes is a prefix of more bytes.
pub front_more : (bytes more : List ℕ) (w : Option (List ℕ)) → ShowsFront bytes w → ShowsFront (bytes ++ more) w
front_more bytes more w h = record {
  front = h.front;
  rest = h.rest ++ more;
  text = h.text;
  parts = ap (λ (l : List ℕ). l ++ more) h.parts ∙ append_assoc h.front h.rest more;
  pictured = h.pictured;
  shows = h.shows;
}

pub some_more : (bytes more : List ℕ) (v w : Option (List ℕ)) → ShowsSome bytes v w → ShowsSome (bytes ++ more) v w
some_more bytes more v w h = ⊎_elim (λ e. inl e) (λ f. inr (front_more bytes more w f)) h

-- what is shown after two calls in a row
pub some_then : (bytes more : List ℕ) (u v w : Option (List ℕ)) → ShowsSome bytes u v → ShowsSome (bytes ++ more) v w → ShowsSome (bytes ++ more) u w
some_then bytes more u v w h k = ⊎_elim (λ e. ⊎_elim (λ d. inl (e ∙ d)) (λ f. inr (subst (λ (o : Option (List ℕ)). ShowsFront (bytes ++ more) o) (sym e) f)) (some_more bytes more u v h)) (λ f. inr f) k

-- The picture of the first bytes is shown.
pub front_shown : (bytes text : List ℕ) (n : ℕ) (w : Option (List ℕ)) → IsPicture (take n bytes) text → Shows w text → ShowsFront bytes w
front_shown bytes text n w p s = record { front = take n bytes; rest = drop n bytes; text = text; parts = sym (take-append-drop n bytes); pictured = p; shows = s }
