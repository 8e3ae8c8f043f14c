-- The acts of a host in the flat list are the text of its code.
use Rattle.std.proofs.Common.{◌≡◌, ℕ, nat_eq, if◌then◌else◌, Bool, true, false, List, [], ◌∷◌, ◌⊎◌, inl, inr, refl, sym, ap, subst, ◌∙◌}
use Rattle.std.proofs.lemmas.Bool.{eq-eqb, ne_eqb}
use native.Mathlib.Decide.{ℕ_discrete}
use Rattle.vd_base.specs.HostSets.{host}
use Rattle.vd_execution.specs.declared.instructions.Instr.{Instr}
use Rattle.vd_execution.specs.declared.instructions.Instr.TheVariants as instr
use Rattle.vd_execution.specs.declared.instructions.Line.{Line}
use Rattle.vd_execution.specs.declared.instructions.Line.TheVariants as line
use Rattle.vd_execution.specs.Code.{Code, Then, Send, Recv, Choose, Repeat}
use Rattle.vd_execution.specs.Joint.{Part, TakesPart, Apart, Within, IsTidy, Joint, Done, Do, Msg, If, For, if_part, code_of}
use Rattle.vd_execution.specs.Text.{register, text, each_then, flat, pick}
use Rattle.vd_execution.proofs.Parts.{absent_part, absent}

module _ (h : ℕ) where
  -- an act of each host that takes part, as one of them sees it: with its register r
  abbrev Seen : (Part → Line) → (ℕ → Instr) → Type 0
  Seen f x = (p : Part) (lines : List Line) → pick h (f p ∷ lines) ≡ (if nat_eq h p.0 then x p.1 ∷ pick h lines else pick h lines)

  record Takes (ps : List Part) (r : ℕ) : Type 0 where
    part : (f : ℕ → Code) (a : Code) → if_part ps h f a ≡ f r
    acts : (f : Part → Line) (x : ℕ → Instr) → Seen f x → (behind : List Line) → pick h (each_then ps f behind) ≡ x r ∷ pick h behind

  none : (ps : List Part) → (TakesPart ps h → ⊥) → (f : Part → Line) (x : ℕ → Instr) → Seen f x → (behind : List Line) → pick h (each_then ps f behind) ≡ pick h behind
  none [] n f x e r = refl
  none (p ∷ ps) n f x e r =
      e p (each_then ps f r) ∙ ap (λ (b : Bool). if b then x p.1 ∷ pick h (each_then ps f r) else pick h (each_then ps f r)) (ne_eqb h p.0 (λ i. n (inl i))) ∙ none ps (λ t. n (inr t)) f x e r

  takes : (ps : List Part) → Apart ps → ((r : ℕ) × Takes ps r) ⊎ (TakesPart ps h → ⊥)
  takes [] apart = inr (λ t. t)
  takes (p ∷ ps) apart = at (ℕ_discrete h p.0) (takes ps apart.1)
    where
      at : Dec (h ≡ p.0) → ((r : ℕ) × Takes ps r) ⊎ (TakesPart ps h → ⊥) → ((r : ℕ) × Takes (p ∷ ps) r) ⊎ (TakesPart (p ∷ ps) h → ⊥)
      at (yes e) z =
          let P : ℕ → Type 0 = λ q. TakesPart ps q in
          let out : TakesPart ps h → ⊥ = λ t. apart.0 (subst P e t) in
          inl (
            p.1,
            record {
              part = λ f a. ap (λ (b : Bool). if b then f p.1 else if_part ps h f a) (eq-eqb h p.0 e);
              acts = λ f x i r. i p (each_then ps f r) ∙ ap (λ (b : Bool). if b then x p.1 ∷ pick h (each_then ps f r) else pick h (each_then ps f r)) (eq-eqb h p.0 e) ∙ ap (λ (l : List Instr). x p.1 ∷ l) (none ps out f x i r);
            },
          )
      at (no n) (inl (g, t)) =
          inl (
            g,
            record {
              part = λ f a. ap (λ (b : Bool). if b then f p.1 else if_part ps h f a) (ne_eqb h p.0 n) ∙ t.part f a;
              acts = λ f x i r. i p (each_then ps f r) ∙ ap (λ (b : Bool). if b then x p.1 ∷ pick h (each_then ps f r) else pick h (each_then ps f r)) (ne_eqb h p.0 n) ∙ t.acts f x i r;
            },
          )
      at (no n) (inr z) = inr (λ t. neither n z t)
        where
          neither : (h ≡ p.0 → ⊥) → (TakesPart ps h → ⊥) → (h ≡ p.0) ⊎ TakesPart ps h → ⊥
          neither n z (inl e) = n e
          neither n z (inr t) = z t

  abbrev IsPicked : Joint → Type 0
  IsPicked j = (behind : List Line) → pick h (flat j behind) ≡ text (code_of h j) (pick h behind)

  if_in : (ps : List Part) (u e j : Joint) (g : ℕ) → Takes ps g → IsPicked u → IsPicked e → IsPicked j → IsPicked (If ps u e j)
  if_in ps u e j g t iu ie ij r =
      t.acts (λ p. line.If (host p.0) (register p.1)) (λ g. instr.If (register g)) (λ p r. refl) _ ∙ ap (λ (l : List Instr). instr.If (register g) ∷ l)
      (iu _ ∙ ap (text (code_of h u)) (t.acts (λ p. line.Else (host p.0)) (λ g. instr.Else) (λ p r. refl) _ ∙ ap (λ (l : List Instr). instr.Else ∷ l)
      (ie _ ∙ ap (text (code_of h e)) (t.acts (λ p. line.End (host p.0)) (λ g. instr.End) (λ p r. refl) _ ∙ ap (λ (l : List Instr). instr.End ∷ l) (ij r)))))
      ∙ ap (λ (c : Code). text c (pick h r)) (sym (t.part (λ g. Choose g (code_of h u) (code_of h e) (code_of h j)) (code_of h j)))

  if_out : (ps : List Part) (u e j : Joint) → (TakesPart ps h → ⊥) → Within ps u → Within ps e → IsPicked u → IsPicked e → IsPicked j → IsPicked (If ps u e j)
  if_out ps u e j n wu we iu ie ij r =
      let ends : List Line = each_then ps (λ p. line.End (host p.0)) (flat j r) in
      let elses : List Line = each_then ps (λ p. line.Else (host p.0)) (flat e ends) in
      none ps n (λ p. line.If (host p.0) (register p.1)) (λ g. instr.If (register g)) (λ p r. refl) (flat u elses) ∙ iu elses ∙ ap (λ (c : Code). text c (pick h elses)) (absent ps h u n wu)
      ∙ none ps n (λ p. line.Else (host p.0)) (λ g. instr.Else) (λ p r. refl) (flat e ends) ∙ ie ends ∙ ap (λ (c : Code). text c (pick h ends)) (absent ps h e n we)
      ∙ none ps n (λ p. line.End (host p.0)) (λ g. instr.End) (λ p r. refl) (flat j r) ∙ ij r
      ∙ ap (λ (c : Code). text c (pick h r)) (sym (absent_part ps h (λ g. Choose g (code_of h u) (code_of h e) (code_of h j)) (code_of h j) n))

  for_in : (ps : List Part) (n : ℕ) (u j : Joint) (g : ℕ) → Takes ps g → IsPicked u → IsPicked j → IsPicked (For ps n u j)
  for_in ps n u j g t iu ij r =
      t.acts (λ p. line.For (host p.0) (register p.1) n) (λ g. instr.For (register g) n) (λ p r. refl) _ ∙ ap (λ (l : List Instr). instr.For (register g) n ∷ l)
      (iu _ ∙ ap (text (code_of h u)) (t.acts (λ p. line.End (host p.0)) (λ g. instr.End) (λ p r. refl) _ ∙ ap (λ (l : List Instr). instr.End ∷ l) (ij r)))
      ∙ ap (λ (c : Code). text c (pick h r)) (sym (t.part (λ g. Repeat g 0 n (code_of h u) (code_of h j)) (code_of h j)))

  for_out : (ps : List Part) (n : ℕ) (u j : Joint) → (TakesPart ps h → ⊥) → Within ps u → IsPicked u → IsPicked j → IsPicked (For ps n u j)
  for_out ps n u j out wu iu ij r =
      let ends : List Line = each_then ps (λ p. line.End (host p.0)) (flat j r) in
      none ps out (λ p. line.For (host p.0) (register p.1) n) (λ g. instr.For (register g) n) (λ p r. refl) (flat u ends) ∙ iu ends ∙ ap (λ (c : Code). text c (pick h ends)) (absent ps h u out wu)
      ∙ none ps out (λ p. line.End (host p.0)) (λ g. instr.End) (λ p r. refl) (flat j r) ∙ ij r
      ∙ ap (λ (c : Code). text c (pick h r)) (sym (absent_part ps h (λ g. Repeat g 0 n (code_of h u) (code_of h j)) (code_of h j) out))

  pub picks : (j : Joint) → IsTidy j → IsPicked j
  picks Done t r = refl
  picks (Do a i j) t r = at (picks j t r) (nat_eq h a)
    where
      at : pick h (flat j r) ≡ text (code_of h j) (pick h r) → (b : Bool) → (if b then instr.Do i ∷ pick h (flat j r) else pick h (flat j r)) ≡ text (if b then Then i (code_of h j) else code_of h j) (pick h r)
      at ih true = ap (λ (l : List Instr). instr.Do i ∷ l) ih
      at ih false = ih
  picks (Msg a x b y j) t r = at (picks j t.1.1 r) (nat_eq h a) (nat_eq h b)
    where
      at : pick h (flat j r) ≡ text (code_of h j) (pick h r) → (c d : Bool)
          → (if c then instr.Send (host b) x ∷ pick h (flat j r) else (if d then instr.Recv (host a) y ∷ pick h (flat j r) else pick h (flat j r)))
          ≡ text (if c then Send b x (code_of h j) else (if d then Recv a y (code_of h j) else code_of h j)) (pick h r)
      at ih true d = ap (λ (l : List Instr). instr.Send (host b) x ∷ l) ih
      at ih false true = ap (λ (l : List Instr). instr.Recv (host a) y ∷ l) ih
      at ih false false = ih
  picks (If ps u e j) t r =
      elim (takes ps t.0.0) [
        | inl z ↦ if_in ps u e j z.0 z.1 (picks u t.1.0) (picks e t.1.1.0) (picks j t.1.1.1) r
        | inr n ↦ if_out ps u e j n t.0.1 t.0.2 (picks u t.1.0) (picks e t.1.1.0) (picks j t.1.1.1) r
      ]
  picks (For ps n u j) t r =
      elim (takes ps t.0.0) [
        | inl z ↦ for_in ps n u j z.0 z.1 (picks u t.1.0) (picks j t.1.1) r
        | inr m ↦ for_out ps n u j m t.0.1 (picks u t.1.0) (picks j t.1.1) r
      ]
