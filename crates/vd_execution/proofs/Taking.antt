-- Where each host that has code takes part, all that act do.
use Rattle.std.proofs.Common.{◌≡◌, ◌≢◌, ℕ, nat_eq, if◌then◌else◌, Bool, true, false, List, [], ◌∷◌, ◌⊎◌, inl, inr, ap, ◌∙◌}
use Rattle.std.proofs.lemmas.Bool.{eq-eqb, ne_eqb}
use Rattle.vd_execution.specs.declared.instructions.Reg.{Reg}
use Rattle.vd_execution.specs.declared.instructions.Action.{Action}
use Rattle.vd_execution.specs.Code.{Code, Finished, Then, Send, Recv, Choose, Repeat}
use Rattle.vd_execution.specs.Joint.{Part, Joint, Done, Do, Msg, If, For, if_part, code_of, TakesPart, Within}
use Rattle.vd_execution.proofs.Puts.{same_or_not}
use Rattle.vd_execution.proofs.Parts.{do_here, said_here, heard_here}

abbrev HasCode : ℕ → Joint → Type 0
HasCode h j = code_of h j ≡ Finished → ⊥

-- what is found at a host that takes part
found_in : {A : Type 0} (p : Part) (ps : List Part) (h : ℕ) (f : ℕ → A) (a : A) → (TakesPart ps h → (r : ℕ) × (if_part ps h f a ≡ f r)) → (h ≡ p.0) ⊎ (h ≢ p.0) → (h ≡ p.0) ⊎ TakesPart ps h
    → (r : ℕ) × (if_part (p ∷ ps) h f a ≡ f r)
found_in p ps h f a ih (inl e) t = (p.1, ap (λ (b : Bool). if b then f p.1 else if_part ps h f a) (eq-eqb h p.0 e))
found_in p ps h f a ih (inr n) (inl e) = absurd (n e)
found_in p ps h f a ih (inr n) (inr t) = let r = ih t in (r.0, ap (λ (b : Bool). if b then f p.1 else if_part ps h f a) (ne_eqb h p.0 n) ∙ r.1)

found : {A : Type 0} (ps : List Part) (h : ℕ) (f : ℕ → A) (a : A) → TakesPart ps h → (r : ℕ) × (if_part ps h f a ≡ f r)
found [] h f a t = absurd t
found (p ∷ ps) h f a t = found_in p ps h f a (λ z. found ps h f a z) (same_or_not h p.0) t

-- what is found is not Finished, where neither is
found_some : (ps : List Part) (h : ℕ) (f : ℕ → Code) (a : Code) → ((r : ℕ) → f r ≡ Finished → ⊥) → (a ≡ Finished → ⊥) → if_part ps h f a ≡ Finished → ⊥
found_some [] h f a each other e = other e
found_some (p ∷ ps) h f a each other e = at (nat_eq h p.0) (λ i. found_some ps h f a each other i) e
  where
    at : (b : Bool) → (if_part ps h f a ≡ Finished → ⊥) → (if b then f p.1 else if_part ps h f a) ≡ Finished → ⊥
    at true ih i = each p.1 i
    at false ih i = ih i

do_has : (h a : ℕ) (x : Action) (r : Joint) → HasCode h r → HasCode h (Do a x r)
do_has h a x r has e = at (nat_eq h a) e
  where
    at : (b : Bool) → (if b then Then x (code_of h r) else code_of h r) ≡ Finished → ⊥
    at true i = cc
    at false i = has i

msg_has : (h a b : ℕ) (xs ys : List Reg) (r : Joint) → HasCode h r → HasCode h (Msg a xs b ys r)
msg_has h a b xs ys r has e = at (nat_eq h a) (nat_eq h b) e
  where
    at : (c d : Bool) → (if c then Send b xs (code_of h r) else (if d then Recv a ys (code_of h r) else code_of h r)) ≡ Finished → ⊥
    at true d i = cc
    at false true i = cc
    at false false i = has i

pub within : (ps : List Part) (j : Joint) → ((h : ℕ) → HasCode h j → TakesPart ps h) → Within ps j
within ps Done all = tt
within ps (Do a x r) all = (all a (λ e. let i = do_here a x r in absurd cc), within ps r (λ h has. all h (do_has h a x r has)))
within ps (Msg a xs b ys r) all = (
  all a (λ e. let i = said_here a b xs ys r in absurd cc),
  (all b (λ e. receives (same_or_not b a) e), within ps r (λ h has. all h (msg_has h a b xs ys r has))),
)
  where
    receives : (b ≡ a) ⊎ (b ≢ a) → code_of b (Msg a xs b ys r) ≡ Finished → ⊥
    receives (inl e) i = let s = said_here a b xs ys r in let t = ap (λ h. code_of h (Msg a xs b ys r)) e in cc
    receives (inr n) i = let s = heard_here a b xs ys r n in cc
within ps (If qs first other r) all = (
  (λ h t. all h (λ e. let z = found qs h (λ g. Choose g (code_of h first) (code_of h other) (code_of h r)) (code_of h r) t in let y = z.1 in cc)),
  within ps r (λ h has. all h (found_some qs h (λ g. Choose g (code_of h first) (code_of h other) (code_of h r)) (code_of h r) (λ g e. cc) has)),
)
within ps (For qs count body r) all = (
  (λ h t. all h (λ e. let z = found qs h (λ c. Repeat c 0 count (code_of h body) (code_of h r)) (code_of h r) t in let y = z.1 in cc)),
  within ps r (λ h has. all h (found_some qs h (λ c. Repeat c 0 count (code_of h body) (code_of h r)) (code_of h r) (λ g e. cc) has)),
)
