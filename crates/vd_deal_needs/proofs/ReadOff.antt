-- What a host takes, read off its own code.
use Rattle.std.proofs.Common.{◌≡◌, inl, inr, ℕ, ◌+◌, ◌-◌, ◌*◌, nat_eq, Bool, true, false, if◌then◌else◌, List, [], ◌∷◌, refl, sym, ap, ap₂, ◌∙◌, subst, arith}
use Rattle.std.proofs.lemmas.Bool.Decides.{eqb_tells}
use Rattle.vd_execution.specs.declared.instructions.Action.{Action}
use Rattle.vd_execution.specs.Step.{Source}
use Rattle.vd_execution.specs.Code.{Code, Then, Send, Recv, Choose, Repeat}
use Rattle.vd_execution.specs.Joint.{Part, Joint, Done, Do, Msg, If, For, IsTidy, TakesPart, Within, if_part, code_of}
use Rattle.vd_deal_needs.specs.DealNeedsLawsNeeds.{source_of, one_of, greater, takes, counts}

-- a host that takes out_of part takes nothing
none_within : (ps : List Part) (j : Joint) (h : ℕ) (r : Source) → IsTidy j → Within ps j → (TakesPart ps h → ⊥) → takes j h r ≡ 0
none_within ps Done h r tidy w out_of = refl
none_within ps (Do a x rest) h r tidy w out_of =
    elim (eqb_tells h a) [
      | inl p ↦ absurd (out_of (subst (λ g. TakesPart ps g) (sym p.1) w.0))
      | inr p ↦
          let i = none_within ps rest h r tidy w.1 out_of in
          ap (λ b. (if b then one_of (source_of x) r else 0) + takes rest h r) p.0 ∙ i_of (takes rest h r) i
    ]
  where
    i_of : (n : ℕ) → n ≡ 0 → 0 + n ≡ 0
    i_of n e = omega (arith, e)
none_within ps (Msg a xs b ys rest) h r tidy w out_of = none_within ps rest h r tidy.1.1 w.1.1 out_of
none_within ps (If qs first other rest) h r tidy w out_of =
    let without : TakesPart qs h → ⊥ = λ t. out_of (w.0 h t) in
    let a = none_within qs first h r tidy.1.0 tidy.0.1 without in
    let b = none_within qs other h r tidy.1.1.0 tidy.0.2 without in
    let c = none_within ps rest h r tidy.1.1.1 w.1 out_of in
    omega (arith, a, b, c)
none_within ps (For qs count body rest) h r tidy w out_of =
    let without : TakesPart qs h → ⊥ = λ t. out_of (w.0 h t) in
    let a = none_within qs body h r tidy.1.0 tidy.0.1 without in
    let c = none_within ps rest h r tidy.1.1 w.1 out_of in
    ap (λ k. count * k + takes rest h r) a ∙ ends count (takes rest h r) c
  where
    ends : (n k : ℕ) → k ≡ 0 → n * 0 + k ≡ 0
    ends n k e = omega (arith, e)

-- a block at a host that takes part, or none of it
in_part : (ps : List Part) (h : ℕ) (f : ℕ → Code) (c : Code) (r : Source) (n : ℕ) → ((g : ℕ) → counts (f g) r ≡ n) → ((TakesPart ps h → ⊥) → counts c r ≡ n)
    → counts (if_part ps h f c) r ≡ n
in_part [] h f c r n part none = none (λ t. t)
in_part (p ∷ ps) h f c r n part none =
    elim (eqb_tells h p.0) [
      | inl e ↦ ap (λ b. counts (if b then f p.1 else if_part ps h f c) r) e.0 ∙ part p.1
      | inr e ↦
          ap (λ b. counts (if b then f p.1 else if_part ps h f c) r) e.0
          ∙ in_part ps h f c r n part (λ out_of. none (λ t. elim t [ inl same ↦ e.1 same | inr more ↦ out_of more ]))
    ]

do_counts : (b : Bool) (x : Action) (c : Code) (r : Source) (n : ℕ) → counts c r ≡ n → counts (if b then Then x c else c) r ≡ (if b then one_of (source_of x) r else 0) + n
do_counts true x c r n e = ap (λ k. one_of (source_of x) r + k) e
do_counts false x c r n e = omega (arith, e)

msg_counts : (b d : Bool) (x y c : Code) (r : Source) (n : ℕ) → counts x r ≡ n → counts y r ≡ n → counts c r ≡ n → counts (if b then x else (if d then y else c)) r ≡ n
msg_counts true d x y c r n e f g = e
msg_counts false true x y c r n e f g = f
msg_counts false false x y c r n e f g = g

pub read_off : (j : Joint) (h : ℕ) (r : Source) → IsTidy j → counts (code_of h j) r ≡ takes j h r
read_off Done h r tidy = refl
read_off (Do a x rest) h r tidy = do_counts (nat_eq h a) x (code_of h rest) r (takes rest h r) (read_off rest h r tidy)
read_off (Msg a xs b ys rest) h r tidy =
    let i = read_off rest h r tidy.1.1 in
    msg_counts (nat_eq h a) (nat_eq h b) (Send b xs (code_of h rest)) (Recv a ys (code_of h rest)) (code_of h rest) r (takes rest h r) i i i
read_off (If ps first other rest) h r tidy =
    let a = read_off first h r tidy.1.0 in
    let b = read_off other h r tidy.1.1.0 in
    let c = read_off rest h r tidy.1.1.1 in
    in_part ps h (λ g. Choose g (code_of h first) (code_of h other) (code_of h rest)) (code_of h rest) r (greater (takes first h r) (takes other h r) + takes rest h r)
    (λ g. ap₂ (λ (x y : ℕ). greater x y + counts (code_of h rest) r) a b ∙ ap (λ k. greater (takes first h r) (takes other h r) + k) c)
    (λ out_of.
    let z = none_within ps first h r tidy.1.0 tidy.0.1 out_of in
    let y = none_within ps other h r tidy.1.1.0 tidy.0.2 out_of in
    omega (arith, z, y, c))
read_off (For ps count body rest) h r tidy =
    let a = read_off body h r tidy.1.0 in
    let c = read_off rest h r tidy.1.1 in
    in_part ps h (λ g. Repeat g 0 count (code_of h body) (code_of h rest)) (code_of h rest) r (count * takes body h r + takes rest h r)
    (λ g. ap₂ (λ (x y : ℕ). (count - 0) * x + y) a c ∙ all_turns count (takes body h r) (takes rest h r))
    (λ out_of.
    let z = none_within ps body h r tidy.1.0 tidy.0.1 out_of in
    c ∙ sym (ap (λ k. count * k + takes rest h r) z ∙ no_turns count (takes rest h r)))
  where
    all_turns : (n x y : ℕ) → (n - 0) * x + y ≡ n * x + y
    all_turns n x y = ap (λ k. k * x + y) (omega arith)

    no_turns : (n y : ℕ) → n * 0 + y ≡ y
    no_turns n y = omega arith
