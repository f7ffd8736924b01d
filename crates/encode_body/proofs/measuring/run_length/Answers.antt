use Rattle.std.proofs.Common.{ℕ, ◌≡◌, refl, ◌∙◌, eqb, List, [], ◌∷◌, rules, one-add, tests}
use Rattle.std.specs.List.{prefix_len}
use Rattle.std.proofs.lemmas.Iterator.{YieldsList-from_slice}
use Rattle.std.proofs.lemmas.Iterator.Consumers.{count_from_yields_List}
use Rattle.std.proofs.lemmas.Iterator.Search.{YieldsList-from_take_while}
use Rattle.std.proofs.lemmas.List.Folds.{length-prefix_len}
use Rattle.codec.specs.Leading.{leading}
use Rattle.encode_body.proofs.measuring.run_length.Goals as goal

leading_is : (v : ℕ) (l : List ℕ) → prefix_len (λ x. eqb x v) l ≡ leading v l
unfolding leading
leading_is v [] = refl
leading_is v (x ∷ r) = rw (leading_is v r, one-add)

pub returns-clause-value : goal.returns-clause-value
returns-clause-value c =
    let pixels = c.args.pixels.now in
    let v = c.args.v in
    count_from_yields_List _ _ c.count.ensures.ran (YieldsList-from_take_while _ (λ x. eqb x v) (YieldsList-from_slice pixels cc) c.take_while.ensures.closure c.take_while.ensures.done (λ x b q k. search (rules, tests)))
    ∙ length-prefix_len (λ x. eqb x v) pixels
    ∙ leading_is v pixels
