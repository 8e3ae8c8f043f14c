-- Steps of a resting world, each of a host of which all is taken.
use Rattle.std.proofs.Common.{◌≡◌, ◌≢◌, ◌⊎◌, inl, inr, ℕ, List, [], ◌∷◌, ◌++◌, length, Some, refl, sym, ap, ◌∙◌, subst, subst₂}
use Rattle.std.specs.Prelude.{drop}
use Rattle.std.proofs.Math.Seq.{drop-length}
use Rattle.vd_execution.specs.declared.instructions.Reg.{Reg}
use Rattle.vd_execution.specs.Registers.{put}
use Rattle.vd_execution.specs.Code.{Code, Send, Recv}
use Rattle.vd_execution.specs.World.{Local, World, Tape, moved_on, queue, step, endless}
use Rattle.vd_execution.specs.Joint.{Part, hosts_of, TakesPart, Apart, Host, Hosts, after_msg, resting}
use Rattle.vd_execution.proofs.Puts.{same_or_not, put_same, put_other}
use Rattle.vd_execution.proofs.Confluence.{Through}
use Rattle.vd_execution.proofs.Parts.{Every}
use Rattle.vd_execution.proofs.Diamond.{stepped}
use Rattle.vd_execution.proofs.Resting.{local_of, all_taken, sent_put, resting_put, same_resting, Quietly, message_steps}

-- all that the host sent is taken
abbrev pub Calm : World → ℕ → Type 0
Calm v h = (p : ℕ) → length (queue v h p) ≡ 0

-- steps, each of a host of which all is taken
abbrev pub Calmly : Tape → List ℕ → World → World → Type 0
Calmly t [] a b = a ≡ b
Calmly t (h ∷ hs) a b = (u : World) × (step (endless t) h a ≡ Some u) × Calm a h × Calmly t hs u b

pub on : (t : Tape) (hs gs : List ℕ) (a b c : World) → Calmly t hs a b → Calmly t gs b c → Calmly t (hs ++ gs) a c
on t [] gs a b c p q = subst (λ x. Calmly t gs x c) (sym p) q
on t (h ∷ hs) gs a b c p q = (p.0, p.1, p.2, on t hs gs p.0 b c p.3 q)

pub same_start : (t : Tape) (hs : List ℕ) (a b c : World) → a ≡ b → Calmly t hs b c → Calmly t hs a c
same_start t hs a b c e p = subst (λ x. Calmly t hs x c) (sym e) p

-- in a resting world all is taken
pub at_rest : (code : ℕ → Code) (w : Hosts) (h : ℕ) → Calm (resting code w) h
at_rest code w h = λ p. ap (λ (l : List (List ℕ)). length l) (drop-length ((w h).sent p))

abbrev pub AllQuietly : Tape → List Part → (ℕ → Code) → Hosts → (ℕ → Code) → Hosts → Type 0
AllQuietly t ps code w kode v = Every ps (λ p. Quietly t (code p.0) (w p.0) (kode p.0) (v p.0))

all_kept : (t : Tape) (ps : List Part) (h : ℕ) (code kode : ℕ → Code) (w v : Hosts) → (TakesPart ps h → ⊥) → AllQuietly t ps code w kode v
    → AllQuietly t ps (put code h (kode h)) (put w h (v h)) kode v
all_kept t [] h code kode w v n a = tt
all_kept t (p ∷ ps) h code kode w v n a =
    let other : p.0 ≢ h = λ e. n (inl (sym e)) in
    let P : Code → Host → Type 0 = λ c s. Quietly t c s (kode p.0) (v p.0) in
    (subst₂ P (sym (put_other code h (kode h) p.0 other)) (sym (put_other w h (v h) p.0 other)) a.0, all_kept t ps h code kode w v (λ x. n (inr x)) a.1)

neither : (ps : List Part) (q h : ℕ) → h ≢ q → (TakesPart ps h → ⊥) → (h ≡ q) ⊎ TakesPart ps h → ⊥
neither ps q h d n (inl e) = d e
neither ps q h d n (inr t) = n t

left_alone : {A : Type 0} (ps : List Part) (f g : ℕ → A) (q : ℕ) → ((h : ℕ) → ((h ≡ q) ⊎ TakesPart ps h → ⊥) → f h ≡ g h) → (h : ℕ) → (TakesPart ps h → ⊥) → put f q (g q) h ≡ g h
left_alone ps f g q e h n =
    elim (same_or_not h q) [
      | inl same ↦ ap (put f q (g q)) same ∙ put_same f q (g q) ∙ ap g (sym same)
      | inr d ↦ put_other f q (g q) h d ∙ e h (neither ps q h d n)
    ]

-- each host that takes part steps once
pub round : (t : Tape) (ps : List Part) (code kode : ℕ → Code) (w v : Hosts) → Apart ps → AllQuietly t ps code w kode v
    → ((h : ℕ) → (TakesPart ps h → ⊥) → code h ≡ kode h) → ((h : ℕ) → (TakesPart ps h → ⊥) → w h ≡ v h) → ((h : ℕ) → (v h).sent ≡ (w h).sent)
    → Calmly t (hosts_of ps) (resting code w) (resting kode v)
round t [] code kode w v apart a c s n = same_resting code kode w v (λ h. c h (λ x. x)) (λ h. s h (λ x. x))
round t (p ∷ ps) code kode w v apart a c s n =
    let k1 : ℕ → Code = put code p.0 (kode p.0) in
    let w1 : Hosts = put w p.0 (v p.0) in
    let kept : (h : ℕ) → (v h).sent ≡ (w1 h).sent = λ h. n h ∙ sym (sent_put w p.0 (v p.0) (n p.0) h) in (
      put (resting code w) p.0 (local_of (kode p.0) (v p.0) (all_taken w p.0)),
      a.0.goes p.0 (resting code w) (all_taken w p.0) refl,
      at_rest code w p.0,
      same_start t (hosts_of ps) _ _ _ (resting_put code w p.0 (kode p.0) (v p.0) (n p.0))
          (round t ps k1 kode w1 v apart.1 (all_kept t ps p.0 code kode w v apart.0 a.1) (left_alone ps code kode p.0 c) (left_alone ps w v p.0 s) kept),
    )

-- ---- a message

-- who sends takes nothing
sender_took : (c d : Code) (b : ℕ) (xs : List Reg) (s : Host) (taken : ℕ → ℕ) (ws : List ℕ) → c ≡ Send b xs d → (moved_on (local_of c s taken) ws).taken ≡ taken
sender_took c d b xs s taken ws e = ap (λ (k : Code). (moved_on (local_of k s taken) ws).taken) e

pub message : (t : Tape) (a b : ℕ) (xs ys : List Reg) (code kode : ℕ → Code) (w : Hosts) → a ≢ b → length xs ≡ length ys
    → code a ≡ Send b xs (kode a) → code b ≡ Recv a ys (kode b) → ((h : ℕ) → h ≢ a → h ≢ b → code h ≡ kode h)
    → Calmly t (a ∷ b ∷ []) (resting code w) (resting kode (after_msg a xs b ys w))
message t a b xs ys code kode w ne same_length at_a at_b others =
    let m = message_steps t a b xs ys code kode w ne same_length at_a at_b others in
    let s = stepped (endless t) a (resting code w) m.0 m.1 in
    let there : m.0 b ≡ resting code w b = ap (λ (v : World). v b) s.made ∙ put_other (resting code w) a (moved_on (resting code w a) s.words) b (λ e. ne (sym e)) in
    let took : (p : ℕ) → (m.0 p).taken b ≡ (resting code w p).taken b =
    λ p. ap (λ (v : World). (v p).taken b) s.made ∙ elim (same_or_not p a) [
      | inl same ↦
          ap (λ q. (put (resting code w) a (moved_on (resting code w a) s.words) q).taken b) same
          ∙ ap (λ (l : Local). l.taken b) (put_same (resting code w) a (moved_on (resting code w a) s.words))
          ∙ ap (λ (f : ℕ → ℕ). f b) (sender_took (code a) (kode a) b xs (w a) (all_taken w a) s.words at_a)
          ∙ ap (λ q. (resting code w q).taken b) (sym same)
      | inr other ↦ ap (λ (l : Local). l.taken b) (put_other (resting code w) a (moved_on (resting code w a) s.words) p other)
    ] in
    let calm : Calm m.0 b =
    λ p. ap (λ (l : Local). length (drop ((m.0 p).taken b) (l.sent p))) there ∙ ap (λ n. length (drop n ((resting code w b).sent p))) (took p) ∙ at_rest code w b p in
    (m.0, m.1, at_rest code w a, (m.2.0, m.2.1, calm, m.2.2))

-- they are steps
pub calm_steps : (t : Tape) (hs : List ℕ) (a b : World) → Calmly t hs a b → Through (step (endless t)) hs a b
calm_steps t [] a b p = p
calm_steps t (h ∷ hs) a b p = (p.0, p.1, calm_steps t hs p.0 b p.3)
