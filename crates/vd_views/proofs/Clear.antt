-- Words that hosts have in clear are moved: the host that hears one is told the word.
use Rattle.std.proofs.Common.{◌≡◌, ◌≢◌, ℕ, nat_eq, Bool, true, false, ◌||◌, if◌then◌else◌, List, [], ◌∷◌, ◌++◌, ◌⊎◌, inl, inr, refl, sym, ap, subst, ◌∙◌, rules, arith}
use Rattle.std.specs.Prelude.{map}
use Rattle.std.proofs.lemmas.Bool.{eq-eqb}
use Rattle.vd_base.specs.declared.ids.HostId.{HostId}
use Rattle.vd_base.specs.Holders.{is_among}
use Rattle.vd_execution.specs.declared.instructions.Reg.{Reg}
use Rattle.vd_execution.specs.declared.instructions.Action.{Action}
use Rattle.vd_execution.specs.declared.instructions.Action.TheVariants as action
use Rattle.vd_execution.specs.Registers.{Registers, put}
use Rattle.vd_execution.specs.Step.{words_in}
use Rattle.vd_execution.specs.World.{Tape}
use Rattle.vd_execution.specs.Joint.{Host, Hosts, acted, after_do, after_msg, said_to, has_heard}
use Rattle.vd_execution.specs.Gadgets.{Gadget, Alone, Tells}
use Rattle.vd_execution.proofs.Front.{same_or_not, put_same, put_other}
use Rattle.vd_duet.specs.Builder.{next_at, taken}
use Rattle.vd_duet.specs.Calls.{Places, hosts_of, Made}
use Rattle.vd_duet.specs.Laws.{IsHost, Copies}
use Rattle.vd_clear.specs.Copies.{passed, told, compared, adopted, first_register, shown, each_made}
use Rattle.vd_views.specs.Views.{Coalition, IsIn}
use Rattle.vd_views.specs.Sides.{AreKin, after, Telling, Each, IsQuiet}
use Rattle.vd_views.proofs.Sides.{after_append, telling_then, telling_quiet, telling_on}

-- ---- registers of the hosts that hear nothing

pub msg_other : (a : ℕ) (said : List Reg) (b : ℕ) (heard : List Reg) (w : Hosts) (g : ℕ) → g ≢ b → (after_msg a said b heard w g).registers ≡ (w g).registers
msg_other a said b heard w g n =
    let words : List ℕ = words_in (w a).registers said in
    ap (λ (s : Host). s.registers) (put_other _ b (has_heard heard words (w b)) g n) ∙ at words (same_or_not g a)
  where
    at : (words : List ℕ) → (g ≡ a) ⊎ (g ≢ a) → (put w a (said_to b words (w a)) g).registers ≡ (w g).registers
    at words (inl e) =
        let P : ℕ → Type 0 = λ q. (put w a (said_to b words (w a)) q).registers ≡ (w q).registers in
        subst P (sym e) (ap (λ (s : Host). s.registers) (put_same w a (said_to b words (w a))))
    at words (inr m) = ap (λ (s : Host). s.registers) (put_other w a (said_to b words (w a)) g m)

-- all hosts but one keep their registers
abbrev KeepsBut : ℕ → Hosts → Hosts → Type 0
KeepsBut k w u = (g : ℕ) → g ≢ k → (u g).registers ≡ (w g).registers

keeps_on : (k : ℕ) (w u x : Hosts) → KeepsBut k w u → KeepsBut k u x → KeepsBut k w x
keeps_on k w u x a b g n = b g n ∙ a g n

do_keeps : (t : Tape) (k : ℕ) (a : Action) (w : Hosts) → KeepsBut k w (after_do t k a w)
do_keeps t k a w g n = ap (λ (s : Host). s.registers) (put_other w k (acted (t k) a (w k)) g n)

-- ---- a word goes from one host to others

module _ (K : Coalition) (t y : Tape) (kin : AreKin K t y) (a : HostId) (x : Reg) (c d : ℕ) where
  abbrev HasBoth : Hosts → Hosts → Type 0
  HasBoth w v = ((w a.0).registers x.0 ≡ c) × ((v a.0).registers x.0 ≡ d)

  heard_on : (k : HostId) (r : Reg) → a.0 ≢ k.0 → (w v : Hosts) → HasBoth w v → HasBoth (after_msg a.0 (x ∷ []) k.0 (r ∷ []) w) (after_msg a.0 (x ∷ []) k.0 (r ∷ []) v)
  heard_on k r n w v e = (
    ap (λ (f : Registers). f x.0) (msg_other a.0 (x ∷ []) k.0 (r ∷ []) w a.0 n) ∙ e.0,
    ap (λ (f : Registers). f x.0) (msg_other a.0 (x ∷ []) k.0 (r ∷ []) v a.0 n) ∙ e.1,
  )

  pub passed_tells : (hs : List HostId) (next : List ℕ) (w v : Hosts) → HasBoth w v → ((g : ℕ) → IsIn K g → IsHost hs g → c ≡ d) → Telling K t y (each_made (passed a x) hs next).gadgets w v
  passed_tells [] next w v e same = λ b tidy hides owns. tt
  passed_tells (k ∷ hs) next w v e same =
      at (λ n u z f. passed_tells hs n u z f (λ g m j. same g m (inr j))) (nat_eq a.0 k.0) refl
    where
      differ : nat_eq a.0 k.0 ≡ false → a.0 ≢ k.0
      differ e f = grind (arith, rules)

      at : ((n : List ℕ) (u z : Hosts) → HasBoth u z → Telling K t y (each_made (passed a x) hs n).gadgets u z) → (b : Bool) → nat_eq a.0 k.0 ≡ b
          → let one : Made Reg = if b then record { given = x; gadgets = []; next = next } else record { given = next_at next k; gadgets = Tells a (x ∷ []) k (next_at next k ∷ []) ∷ []; next = taken k 1 next } in
          Telling K t y (one.gadgets ++ (each_made (passed a x) hs one.next).gadgets) w v
      at later true i = later next w v e
      at later false i =
          let r : Reg = next_at next k in
          telling_then K t y kin (Tells a (x ∷ []) k (r ∷ [])) (each_made (passed a x) hs (taken k 1 next)).gadgets w v
          (λ b hides f. ap (λ z. z ∷ []) (e.0 ∙ same k.0 f (inl refl) ∙ sym e.1))
          (later (taken k 1 next) (after_msg a.0 (x ∷ []) k.0 (r ∷ []) w) (after_msg a.0 (x ∷ []) k.0 (r ∷ []) v) (heard_on k r (differ i) w v e))

-- ---- copies are told to a host that has none

-- the host has none of these
abbrev IsNone : Places → ℕ → Type 0
IsNone x k = IsHost (hosts_of x) k → ⊥

copies_still : (x : Places) (k : ℕ) → IsNone x k → (w u : Hosts) (v : ℕ) → KeepsBut k w u → Copies w x v → Copies u x v
copies_still [] k out w u v keeps e = tt
copies_still (q ∷ x) k out w u v keeps e =
    (ap (λ (f : Registers). f q.1.0) (keeps q.0.0 (λ i. out (inl (sym i)))) ∙ e.0, copies_still x k (λ i. out (inr i)) w u v keeps e.1)

compared_quiet : (k : HostId) (rs : List Reg) → Each IsQuiet (compared k rs)
compared_quiet k [] = tt
compared_quiet k (r ∷ rs) = each k r rs
  where
    each : (k : HostId) (r : Reg) (rs : List Reg) → Each IsQuiet (map (λ s. Alone k (action.Same r s)) rs)
    each k r [] = tt
    each k r (s ∷ rs) = (tt, each k r rs)

compared_keeps : (t : Tape) (k : HostId) (rs : List Reg) (w : Hosts) → KeepsBut k.0 w (after t (compared k rs) w)
compared_keeps t k [] w = λ g n. refl
compared_keeps t k (r ∷ rs) w = each rs w
  where
    each : (rs : List Reg) (w : Hosts) → KeepsBut k.0 w (after t (map (λ s. Alone k (action.Same r s)) rs) w)
    each [] w = λ g n. refl
    each (s ∷ rs) w =
        let u : Hosts = after_do t k.0 (action.Same r s) w in
        keeps_on k.0 w u (after t (map (λ z. Alone k (action.Same r z)) rs) u) (do_keeps t k.0 (action.Same r s) w) (each rs u)

told_keeps : (t : Tape) (x : Places) (k : HostId) (next : List ℕ) (w : Hosts) → KeepsBut k.0 w (after t (told x k next).gadgets w)
told_keeps t [] k next w = λ g n. refl
told_keeps t (q ∷ x) k next w =
    let r : Reg = next_at next k in
    let u : Hosts = after_msg q.0.0 (q.1 ∷ []) k.0 (r ∷ []) w in
    keeps_on k.0 w u (after t (told x k (taken k 1 next)).gadgets u) (λ g n. msg_other q.0.0 (q.1 ∷ []) k.0 (r ∷ []) w g n) (told_keeps t x k (taken k 1 next) u)

not_among : (hs : List HostId) (k : ℕ) → is_among hs k ≡ false → IsHost hs k → ⊥
not_among [] k e i = absurd i
not_among (g ∷ hs) k e i = at (not_among hs k) (nat_eq k g.0) refl e i
  where
    opposite : (z : Bool) → z ≡ true → z ≡ false → ⊥
    opposite true p q = cc
    opposite false p q = cc

    at : (is_among hs k ≡ false → IsHost hs k → ⊥) → (b : Bool) → nat_eq k g.0 ≡ b → (b || is_among hs k) ≡ false → (k ≡ g.0) ⊎ IsHost hs k → ⊥
    at again true f e i = cc
    at again false f e (inl j) = opposite (nat_eq k g.0) (eq-eqb k g.0 j) f
    at again false f e (inr j) = again e j

module _ (K : Coalition) (t y : Tape) (kin : AreKin K t y) (c d : ℕ) where
  told_tells : (x : Places) (k : HostId) → IsNone x k.0 → (next : List ℕ) (w v : Hosts) → Copies w x c → Copies v x d → (IsIn K k.0 → c ≡ d) → Telling K t y (told x k next).gadgets w v
  told_tells [] k out next w v e f same = λ b tidy hides owns. tt
  told_tells (q ∷ x) k out next w v e f same =
      let r : Reg = next_at next k in
      let w1 : Hosts = after_msg q.0.0 (q.1 ∷ []) k.0 (r ∷ []) w in
      let v1 : Hosts = after_msg q.0.0 (q.1 ∷ []) k.0 (r ∷ []) v in
      telling_then K t y kin (Tells q.0 (q.1 ∷ []) k (r ∷ [])) (told x k (taken k 1 next)).gadgets w v
      (λ b hides i. ap (λ z. z ∷ []) (e.0 ∙ same i ∙ sym f.0))
      (told_tells x k (λ i. out (inr i)) (taken k 1 next) w1 v1
      (copies_still x k.0 (λ i. out (inr i)) w w1 c (λ g n. msg_other q.0.0 (q.1 ∷ []) k.0 (r ∷ []) w g n) e.1)
      (copies_still x k.0 (λ i. out (inr i)) v v1 d (λ g n. msg_other q.0.0 (q.1 ∷ []) k.0 (r ∷ []) v g n) f.1) same)

  -- what is shown to a host, and that the copies go on standing
  pub record Shown (x : Places) (k : HostId) (next : List ℕ) (w v : Hosts) : Type 0 where
    pub tells : Telling K t y (shown x k next).gadgets w v
    pub first : Copies (after t (shown x k next).gadgets w) x c
    pub second : Copies (after y (shown x k next).gadgets v) x d

  pub shown_tells : (x : Places) (k : HostId) (next : List ℕ) (w v : Hosts) → Copies w x c → Copies v x d → (IsIn K k.0 → c ≡ d) → Shown x k next w v
  shown_tells x k next w v e f same = let p = at (is_among (hosts_of x) k.0) refl in record { tells = p.0; first = p.1.0; second = p.1.1 }
    where
      keeps : (s : Tape) (u : Hosts) → KeepsBut k.0 u (after s ((told x k next).gadgets ++ compared k (told x k next).given) u)
      keeps s u =
          let P : Hosts → Type 0 = λ z. KeepsBut k.0 u z in
          subst P (sym (after_append s (told x k next).gadgets (compared k (told x k next).given) u))
          (keeps_on k.0 u (after s (told x k next).gadgets u) (after s (compared k (told x k next).given) (after s (told x k next).gadgets u)) (told_keeps s x k next u)
          (compared_keeps s k (told x k next).given (after s (told x k next).gadgets u)))

      at : (b : Bool) → is_among (hosts_of x) k.0 ≡ b
          → let one : Made Reg = if b then adopted x k next else record { given = first_register (told x k next).given; gadgets = (told x k next).gadgets ++ compared k (told x k next).given; next = (told x k next).next } in
          (Telling K t y one.gadgets w v) × (Copies (after t one.gadgets w) x c × Copies (after y one.gadgets v) x d)
      at true i = ((λ b tidy hides owns. tt), (e, f))
      at false i =
          let out : IsNone x k.0 = not_among (hosts_of x) k.0 i in
          let gs : List Gadget = (told x k next).gadgets in
          let cs : List Gadget = compared k (told x k next).given in (
            telling_on K t y kin gs cs w v (after t gs w) (after y gs v) refl refl (told_tells x k out next w v e f same)
                (telling_quiet K t y kin cs (after t gs w) (after y gs v) (compared_quiet k (told x k next).given)),
            (copies_still x k.0 out w (after t (gs ++ cs) w) c (keeps t w) e, copies_still x k.0 out v (after y (gs ++ cs) v) d (keeps y v) f),
          )

  -- copies are shown to hosts one after the other
  pub spread_tells : (x : Places) (hs : List HostId) (next : List ℕ) (w v : Hosts) → Copies w x c → Copies v x d → ((g : ℕ) → IsIn K g → IsHost hs g → c ≡ d) → Telling K t y (each_made (shown x) hs next).gadgets w v
  spread_tells x [] next w v e f same = λ b tidy hides owns. tt
  spread_tells x (k ∷ hs) next w v e f same =
      let one = shown_tells x k next w v e f (λ i. same k.0 i (inl refl)) in
      let gs : List Gadget = (shown x k next).gadgets in
      telling_on K t y kin gs (each_made (shown x) hs (shown x k next).next).gadgets w v (after t gs w) (after y gs v) refl refl one.tells
      (spread_tells x hs (shown x k next).next (after t gs w) (after y gs v) one.first one.second (λ g m i. same g m (inr i)))
