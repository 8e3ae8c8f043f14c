-- One more numbered file.
use Rattle.std.proofs.Common.{◌≡◌, ℕ, ◌+◌, List, [], ◌∷◌, ◌++◌, length, ap, arith}
use Rattle.vd_outside.specs.declared.stored.Stored.{Stored}
use Rattle.vd_cmd_plan.specs.Numbered.{file_name, numbered}

pub numbered_more : (prefix ending : List ℕ) (number : ℕ) (contents : List (List ℕ)) (content : List ℕ) (last : ℕ) → last ≡ number + length contents
    → numbered prefix ending number (contents ++ content ∷ []) ≡ numbered prefix ending number contents ++ record { name = file_name prefix last ending; content = content } ∷ []
numbered_more prefix ending number [] content last is = ap (λ n. record { name = file_name prefix n ending; content = content } ∷ []) (omega arith)
numbered_more prefix ending number (c ∷ cs) content last is = ap (λ (files : List Stored). record { name = file_name prefix number ending; content = c } ∷ files) (numbered_more prefix ending (number + 1) cs content last (omega arith))
