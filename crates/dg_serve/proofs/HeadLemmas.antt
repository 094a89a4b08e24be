-- The first lines of a trace, one after the other.
use Rattle.std.proofs.Common.{◌≡◌, ℕ, ◌+◌, ◌<◌, ◌≤◌, List, [], ◌∷◌, ◌++◌, length, take, map, get_or, append-nil, append_assoc, ap, sym, ◌∙◌}
use Rattle.std.proofs.lemmas.List.{map-append, take_more, take_all}
use Rattle.std.proofs.lemmas.Grind.{flat_map-append}
use Rattle.dg_script.specs.Spelling.{line_text}
use Rattle.dg_script.specs.declared.line.Line.{Line}
use Rattle.dg_script.specs.declared.line.Line.TheVariants.{Motes, Boards, Link}
use Rattle.dg_serve.specs.Traces.{lines_text}

abbrev pub link_line : ℕ × ℕ → Line
link_line l = Link l.0 l.1

abbrev pub said : Line → List ℕ
said l = line_text l ++ 10 ∷ []

-- the lines up to those of the first k links
abbrev pub head_so_far : ℕ → List (ℕ × ℕ) → ℕ → List ℕ
head_so_far motes links k = lines_text (Motes motes ∷ Boards ∷ map link_line (take k links))

pub head_begins : (motes : ℕ) (links : List (ℕ × ℕ)) (a b c : List ℕ) → b ≡ a ++ said (Motes motes) → c ≡ b ++ said Boards → c ≡ a ++ head_so_far motes links 0
head_begins motes links a b c first second =
    second ∙ ap (λ l. l ++ said Boards) first ∙ append_assoc a (said (Motes motes)) (said Boards) ∙ ap (λ l. a ++ (said (Motes motes) ++ l)) (sym (append-nil (said Boards)))

rest_more : (links : List (ℕ × ℕ)) (k : ℕ) (d : ℕ × ℕ) → k < length links → lines_text (map link_line (take (k + 1) links)) ≡ lines_text (map link_line (take k links)) ++ said (link_line (get_or links k d))
rest_more links k d h =
    ap (λ l. lines_text (map link_line l)) (take_more links k d h) ∙ ap lines_text (map-append link_line (take k links) (get_or links k d ∷ [])) ∙ flat_map-append said (map link_line (take k links)) (link_line (get_or links k d) ∷ [])
    ∙ ap (λ l. lines_text (map link_line (take k links)) ++ l) (append-nil (said (link_line (get_or links k d))))

pub head_more : (motes : ℕ) (links : List (ℕ × ℕ)) (k : ℕ) (d : ℕ × ℕ) (a b c : List ℕ) → k < length links → b ≡ a ++ head_so_far motes links k → c ≡ b ++ said (link_line (get_or links k d)) → c ≡ a ++ head_so_far motes links (k + 1)
head_more motes links k d a b c h first second =
    let m = said (Motes motes) in
    let o = said Boards in
    let r = lines_text (map link_line (take k links)) in
    let f = said (link_line (get_or links k d)) in
    second
    ∙ ap (λ l. l ++ f) first
    ∙ append_assoc a (m ++ (o ++ r)) f
    ∙ ap (λ l. a ++ l) (append_assoc m (o ++ r) f ∙ ap (λ l. m ++ l) (append_assoc o r f ∙ ap (λ l. o ++ l) (sym (rest_more links k d h))))

pub head_ends : (motes : ℕ) (links : List (ℕ × ℕ)) (k : ℕ) (a c : List ℕ) → length links ≤ k → c ≡ a ++ head_so_far motes links k → c ≡ a ++ lines_text (Motes motes ∷ Boards ∷ map link_line links)
head_ends motes links k a c h e = e ∙ ap (λ l. a ++ lines_text (Motes motes ∷ Boards ∷ map link_line l)) (take_all k links h)
