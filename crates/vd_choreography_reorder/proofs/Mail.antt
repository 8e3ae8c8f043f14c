-- What hosts have sent, and what a message adds.
use Rattle.std.proofs.Common.{◌≡◌, ◌≢◌, inl, inr, ℕ, zero, suc, ◌+◌, nat_eq, Bool, true, false, ◌&&◌, not, if◌then◌else◌, List, [], ◌∷◌, ◌++◌, refl, sym, ap, ap₂, ◌∙◌, subst, arith}
use Rattle.std.proofs.lemmas.Bool.{eq-eqb, ne_eqb}
use mathlib.Core.Path.{fun_ext}
use Rattle.vd_execution.specs.declared.instructions.Reg.{Reg}
use Rattle.vd_execution.specs.declared.instructions.Action.{Action}
use Rattle.vd_execution.specs.Registers.{Registers, put, put_each}
use Rattle.vd_execution.specs.Step.{words_in}
use Rattle.vd_execution.specs.World.{Tape}
use Rattle.vd_execution.specs.Joint.{Part, Host, Hosts, acted, said_to, has_heard, if_part, is_other, turn_begun}
use Rattle.vd_execution.proofs.Front.{same_or_not, put_same, put_other, put_itself}
use Rattle.vd_reorder.specs.Turning.{Turn, Does, Tells, gone_by, Look, look, AreAlike}
use Rattle.vd_reorder.proofs.Front.{gone_alike, begun_alike}
use Rattle.vd_choreography_reorder.specs.Packets.{count_of}
use Rattle.vd_choreography_reorder.proofs.Kept.{IsKept}

abbrev pub Mail : Type 0
Mail = ℕ → ℕ → List (List ℕ)

abbrev pub mail : Hosts → Mail
mail w h = (w h).sent

-- the words that are told
abbrev pub words_told : Turn → Hosts → List ℕ
words_told (Does h a) w = []
words_told (Tells a said b heard) w = words_in (w a).registers said

-- a message to another host is one more packet on its link
abbrev mailed : Turn → List ℕ → Mail → Mail
mailed (Does h a) words m = m
mailed (Tells a said b heard) words m = put (put m a (put (m a) b (m a b ++ words ∷ []))) b (m b)

put_mail : (w : Hosts) (h : ℕ) (x : Host) (i : ℕ) → (put w h x i).sent ≡ put (mail w) h x.sent i
put_mail w h x i =
    elim (same_or_not i h) [
      | inl e ↦ ap (λ k. (put w h x k).sent) e ∙ ap (λ (s : Host). s.sent) (put_same w h x) ∙ sym (put_same (mail w) h x.sent) ∙ ap (put (mail w) h x.sent) (sym e)
      | inr ne ↦ ap (λ (s : Host). s.sent) (put_other w h x i ne) ∙ sym (put_other (mail w) h x.sent i ne)
    ]

mail_gone : (t : Tape) (x : Turn) (w : Hosts) → mail (gone_by t x w) ≡ mailed x (words_told x w) (mail w)
mail_gone t (Does h a) w = fun_ext (put_mail w h (acted (t h) a (w h))) ∙ put_itself (mail w) h
mail_gone t (Tells a said b heard) w =
    let sent : Hosts = put w a (said_to b (words_in (w a).registers said) (w a)) in
    fun_ext (put_mail sent b (has_heard heard (words_in (w a).registers said) (w b)))
    ∙ ap (λ (m : Mail). put m b (w b).sent) (fun_ext (put_mail w a (said_to b (words_in (w a).registers said) (w a))))

-- what is told of the packets of a link, so that it is known of a list behind another one
pub record Measure (M : Type 0) : Type 0 where
  pub of : List (List ℕ) → M
  pub join : M → M → M
  pub none : M
  pub splits : (ps qs : List (List ℕ)) → of (ps ++ qs) ≡ join (of ps) (of qs)
  pub unit : (x : M) → x ≡ join x none

module _ (M : Type 0) (f : Measure M) (g h : ℕ) where
  abbrev pub measure : Mail → M
  measure m = f.of (m g h)

  -- what a packet adds, where it goes from the one to the other
  abbrev pub added : Turn → List ℕ → M
  added (Does k a) words = f.none
  added (Tells a said b heard) words = if (nat_eq g a && nat_eq h b) && not (nat_eq a b) then f.of (words ∷ []) else f.none

  by_both : (p q r : Bool) (n : M) → p ≡ true → q ≡ true → r ≡ false → (if (p && q) && not r then n else f.none) ≡ n
  by_both true true false n e k l = refl
  by_both true true true n e k l = absurd cc
  by_both true false r n e k l = absurd cc
  by_both false q r n e k l = absurd cc

  no_first : (p q r : Bool) (n : M) → p ≡ false → (if (p && q) && not r then n else f.none) ≡ f.none
  no_first true q r n e = absurd cc
  no_first false q r n e = refl

  no_second : (p q r : Bool) (n : M) → q ≡ false → (if (p && q) && not r then n else f.none) ≡ f.none
  no_second true true r n e = absurd cc
  no_second true false r n e = refl
  no_second false q r n e = refl

  same_host : (p q r : Bool) (n : M) → r ≡ true → (if (p && q) && not r then n else f.none) ≡ f.none
  same_host true true true n e = refl
  same_host true true false n e = absurd cc
  same_host true false r n e = refl
  same_host false q r n e = refl

  module _ (a b : ℕ) (words : List ℕ) (m : Mail) where
    abbrev one : M
    one = if (nat_eq g a && nat_eq h b) && not (nat_eq a b) then f.of (words ∷ []) else f.none

    abbrev row : ℕ → List (List ℕ)
    row = put (m a) b (m a b ++ words ∷ [])

    abbrev after : Mail
    after = put (put m a row) b (m b)

    -- the receiver has sent what it had
    receiver : g ≡ b → after g h ≡ m g h
    receiver e = ap (λ k. after k h) e ∙ ap (λ (r : ℕ → List (List ℕ)). r h) (put_same (put m a row) b (m b)) ∙ ap (λ k. m k h) (sym e)

    -- and so have hosts that do not send
    others : g ≢ b → g ≢ a → after g h ≡ m g h
    others nb na = ap (λ (r : ℕ → List (List ℕ)). r h) (put_other (put m a row) b (m b) g nb ∙ put_other m a row g na)

    sender : g ≢ b → g ≡ a → after g h ≡ row h
    sender nb e =
        ap (λ (r : ℕ → List (List ℕ)). r h) (put_other (put m a row) b (m b) g nb) ∙ ap (λ k. put m a row k h) e ∙ ap (λ (r : ℕ → List (List ℕ)). r h) (put_same m a row)

    to_it : h ≡ b → row h ≡ m a h ++ words ∷ []
    to_it e = ap row e ∙ put_same (m a) b (m a b ++ words ∷ []) ∙ ap (λ k. m a k ++ words ∷ []) (sym e)

    to_another : h ≢ b → row h ≡ m a h
    to_another ne = put_other (m a) b (m a b ++ words ∷ []) h ne

    nothing : after g h ≡ m g h → one ≡ f.none → measure after ≡ f.join (measure m) one
    nothing e k = ap f.of e ∙ f.unit (measure m) ∙ ap (f.join (measure m)) (sym k)

    measured : measure after ≡ f.join (measure m) one
    measured =
        elim (same_or_not g b) [
          | inl gb ↦ elim (same_or_not g a) [
            | inl ga ↦ nothing (receiver gb) (same_host (nat_eq g a) (nat_eq h b) (nat_eq a b) (f.of (words ∷ [])) (eq-eqb a b (sym ga ∙ gb)))
            | inr na ↦ nothing (receiver gb) (no_first (nat_eq g a) (nat_eq h b) (nat_eq a b) (f.of (words ∷ [])) (ne_eqb g a na))
          ]
          | inr nb ↦ elim (same_or_not g a) [
            | inl ga ↦ elim (same_or_not h b) [
              | inl hb ↦
                  ap f.of (sender nb ga ∙ to_it hb)
                  ∙ f.splits (m a h) (words ∷ [])
                  ∙ ap₂ (λ (k : ℕ) (n : M). f.join (f.of (m k h)) n) (sym ga)
                  (sym (by_both (nat_eq g a) (nat_eq h b) (nat_eq a b) (f.of (words ∷ [])) (eq-eqb g a ga) (eq-eqb h b hb) (ne_eqb a b (λ ab. nb (ga ∙ ab)))))
              | inr hn ↦ nothing (sender nb ga ∙ to_another hn ∙ ap (λ k. m k h) (sym ga)) (no_second (nat_eq g a) (nat_eq h b) (nat_eq a b) (f.of (words ∷ [])) (ne_eqb h b hn))
            ]
            | inr na ↦ nothing (others nb na) (no_first (nat_eq g a) (nat_eq h b) (nat_eq a b) (f.of (words ∷ [])) (ne_eqb g a na))
          ]
        ]

  mailed_adds : (x : Turn) (words : List ℕ) (m : Mail) → measure (mailed x words m) ≡ f.join (measure m) (added x words)
  mailed_adds (Does k a) words m = f.unit (measure m)
  mailed_adds (Tells a said b heard) words m = measured a b words m

-- how many packets there are of which a test holds
one_more : (b : Bool) (n k m : ℕ) → n ≡ k + m → (if b then suc n else n) ≡ (if b then suc k else k) + m
one_more true n k m e = omega (arith, e)
one_more false n k m e = e

none_first : (n : ℕ) → n ≡ 0 + n
none_first n = omega arith

pub count_both : (test : List ℕ → Bool) (ps qs : List (List ℕ)) → count_of test (ps ++ qs) ≡ count_of test ps + count_of test qs
count_both test [] qs = none_first (count_of test qs)
count_both test (p ∷ ps) qs = one_more (test p) (count_of test (ps ++ qs)) (count_of test ps) (count_of test qs) (count_both test ps qs)

abbrev pub counting : (List ℕ → Bool) → Measure ℕ
counting test = record { of = count_of test; join = λ n m. n + m; none = 0; splits = count_both test; unit = λ n. omega arith }

-- ---- hosts that are alike and of whose packets the same is told

module _ (M : Type 0) (f : Measure M) (g h : ℕ) where
  pub record SameSo (w v : Hosts) : Type 0 where
    pub alike : AreAlike w v
    pub told : measure M f g h (mail w) ≡ measure M f g h (mail v)

  same_guard : (ps : List Part) (w v : Hosts) → AreAlike w v → is_other ps w ≡ is_other ps v
  same_guard [] w v all = refl
  same_guard (p ∷ ps) w v all = ap (λ (l : Look). nat_eq (l.0 p.1) 0) (all p.0)

  told_alike : (x : Turn) (w v : Hosts) → AreAlike w v → words_told x w ≡ words_told x v
  told_alike (Does k a) w v all = refl
  told_alike (Tells a said b heard) w v all = ap (λ (l : Look). words_in l.0 said) (all a)

  pub measure_gone : (t : Tape) (x : Turn) (w : Hosts) → measure M f g h (mail (gone_by t x w)) ≡ f.join (measure M f g h (mail w)) (added M f g h x (words_told x w))
  measure_gone t x w = ap (measure M f g h) (mail_gone t x w) ∙ mailed_adds M f g h x (words_told x w) (mail w)

  gone_so : (t : Tape) (x : Turn) (w v : Hosts) → SameSo w v → SameSo (gone_by t x w) (gone_by t x v)
  gone_so t x w v s = record {
    alike = gone_alike t x w v s.alike;
    told = measure_gone t x w ∙ ap₂ (λ (n : M) (ws : List ℕ). f.join n (added M f g h x ws)) s.told (told_alike x w v s.alike) ∙ sym (measure_gone t x v);
  }

  same_mail : (b : Bool) (c i : ℕ) (s x : Host) → x.sent ≡ s.sent → (if b then record s { registers = put s.registers c i } else x).sent ≡ s.sent
  same_mail true c i s x e = refl
  same_mail false c i s x e = e

  part_mail : (ps : List Part) (k i : ℕ) (s : Host) → (if_part ps k (λ c. record s { registers = put s.registers c i }) s).sent ≡ s.sent
  part_mail [] k i s = refl
  part_mail (p ∷ ps) k i s = same_mail (nat_eq k p.0) p.1 i s (if_part ps k (λ c. record s { registers = put s.registers c i }) s) (part_mail ps k i s)

  begun_mail : (ps : List Part) (i : ℕ) (w : Hosts) → measure M f g h (mail (turn_begun ps i w)) ≡ measure M f g h (mail w)
  begun_mail ps i w = ap (λ (m : ℕ → List (List ℕ)). f.of (m h)) (part_mail ps g i (w g))

  pub itself_so : (w : Hosts) → SameSo w w
  itself_so w = record { alike = λ k. refl; told = refl }

  pub onwards_so : (w v u : Hosts) → SameSo w v → SameSo v u → SameSo w u
  onwards_so w v u r s = record { alike = λ k. r.alike k ∙ s.alike k; told = r.told ∙ s.told }

  pub so_is_kept : IsKept SameSo
  so_is_kept = record {
    itself = itself_so;
    onwards = onwards_so;
    gone = gone_so;
    guards = λ ps w v s. same_guard ps w v s.alike;
    begun = λ ps i w v s. record { alike = begun_alike ps i w v s.alike; told = begun_mail ps i w ∙ s.told ∙ sym (begun_mail ps i v) };
  }
