use Rattle.std.proofs.Common.{◌≡◌, ◌∙◌, List, [], ◌∷◌, length, get_or, ap, arith}
use Rattle.std.specs.Prelude.{Some}
use Rattle.dg_control.specs.declared.snapshot.Order.{Order}
use Rattle.dg_frame.specs.declared.Entry.{Entry}
use Rattle.dg_frame.specs.declared.Message.TheVariants as message
use Rattle.deluge_c.specs.Messages.{order_of_fields, message_of_fields}
use Rattle.deluge_c.proofs.messages.wide_fields.Goals as goal

-- a list of six is its elements
six : (xs : List Entry) (a b c d e f p q r s t u : Entry) → length xs ≡ 6 → a ≡ get_or xs 0 p → b ≡ get_or xs 1 q → c ≡ get_or xs 2 r → d ≡ get_or xs 3 s → e ≡ get_or xs 4 t → f ≡ get_or xs 5 u → a ∷ b ∷ c ∷ d ∷ e ∷ f ∷ [] ≡ xs
six [] a b c d e f p q r s t u n g h i j k l = absurd (omega (arith, n))
six (v ∷ []) a b c d e f p q r s t u n g h i j k l = absurd (omega (arith, n))
six (v ∷ w ∷ []) a b c d e f p q r s t u n g h i j k l = absurd (omega (arith, n))
six (v ∷ w ∷ x ∷ []) a b c d e f p q r s t u n g h i j k l = absurd (omega (arith, n))
six (v ∷ w ∷ x ∷ y ∷ []) a b c d e f p q r s t u n g h i j k l = absurd (omega (arith, n))
six (v ∷ w ∷ x ∷ y ∷ z ∷ []) a b c d e f p q r s t u n g h i j k l = absurd (omega (arith, n))
six (v ∷ w ∷ x ∷ y ∷ z ∷ o ∷ []) a b c d e f p q r s t u n g h i j k l = cc
six (v ∷ w ∷ x ∷ y ∷ z ∷ o ∷ m ∷ xs) a b c d e f p q r s t u n g h i j k l = absurd (omega (arith, n))

pub returns : goal.returns
unfolding message_of_fields
returns c =
    let es = six c.args.entries.now _ _ _ _ _ _ _ _ _ _ _ _ c.told-entries c.entry_fields.ensures c.entry_fields-2.ensures c.entry_fields-3.ensures c.entry_fields-4.ensures c.entry_fields-5.ensures c.entry_fields-6.ensures in
    ap (λ (x : List Entry). Some (message.Wide c.args.source x (order_of_fields c.order_fields-fields.result))) es
    ∙ ap (λ (x : Order). Some (message.Wide c.args.source c.args.entries.now x)) c.order_fields-fields.ensures
