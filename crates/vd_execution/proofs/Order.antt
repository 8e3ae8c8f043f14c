-- In program order the hosts do what the joint run does, one step for each instruction, and each steps while all that it sent is taken.
use Rattle.std.proofs.Common.{◌≡◌, ◌≢◌, ℕ, zero, suc, ◌+◌, ◌<◌, nat_eq, nat_lt, if◌then◌else◌, Bool, true, false, List, [], ◌∷◌, ◌++◌, inl, inr, refl, sym, ap, subst, subst₂, ◌∙◌, arith}
use Rattle.std.proofs.lemmas.Bool.Decides.{nat_tests}
use mathlib.Core.Path.{subst₃}
use Rattle.vd_execution.specs.declared.instructions.Action.{Action}
use Rattle.vd_execution.specs.Registers.{put}
use Rattle.vd_execution.specs.Code.{Code, Then, Choose, Repeat, followed_by}
use Rattle.vd_execution.specs.World.{World, Tape}
use Rattle.vd_execution.specs.Joint.{Part, Joint, Done, Do, Msg, If, For, if_part, code_of, Host, Hosts, acted, after_do, after_msg, is_other, turn_begun, turns, joint, hosts_of, in_turns, program_order, Apart, Within, IsTidy, GuardsAre, AllTurns, Agrees, IsSmooth, resting}
use Rattle.vd_execution.proofs.Puts.{same_or_not, put_same, put_other}
use Rattle.vd_execution.proofs.Parts.{every_map, every_zip, absent_part, parts_at, part_keeps, guards_each, map_part, do_here, do_there, said_here, heard_here, msg_there, absent}
use Rattle.vd_execution.proofs.Resting.{local_of, all_taken, resting_put, same_resting, acts, Quietly, branch_quietly, turn_quietly, over_quietly}
use Rattle.vd_execution.proofs.Calm.{Calmly, on, same_start, at_rest, round, message}

-- the code of each host, with what it does afterwards
abbrev pub before : Joint → (ℕ → Code) → ℕ → Code
before j k h = followed_by (code_of h j) (k h)

-- one host acts
doing : (t : Tape) (a : ℕ) (x : Action) (code kode : ℕ → Code) (w : Hosts) (hs : List ℕ) (end : World) → code a ≡ Then x (kode a) → ((h : ℕ) → h ≢ a → code h ≡ kode h)
    → Agrees (w a).registers x → Calmly t hs (resting kode (after_do t a x w)) end → Calmly t (a ∷ hs) (resting code w) end
doing t a x code kode w hs end here there agrees rest =
    let s : Host = acted (t a) x (w a) in (
      put (resting code w) a (local_of (kode a) s (all_taken w a)),
      acts t (resting code w) a x (kode a) (w a) (all_taken w a) agrees (ap (λ (c : Code). local_of c (w a) (all_taken w a)) here),
      at_rest code w a,
      same_start t hs _ _ _ (resting_put code w a (kode a) s refl ∙ same_resting (put code a (kode a)) kode (after_do t a x w) (after_do t a x w) left (λ h. refl)) rest,
    )
  where
    left : (h : ℕ) → put code a (kode a) h ≡ kode h
    left h = elim (same_or_not h a) [ inl e ↦ ap (put code a (kode a)) e ∙ put_same code a (kode a) ∙ ap kode (sym e) | inr ne ↦ put_other code a (kode a) h ne ∙ there h ne ]

-- the hosts that take part go into one branch
branching : (t : Tape) (ps : List Part) (first other r : Joint) (w : Hosts) (k : ℕ → Code) (b : Bool) → Apart ps → Within ps first → Within ps other → GuardsAre b ps w
    → Calmly t (hosts_of ps) (resting (before (If ps first other r) k) w) (resting (before (if b then other else first) (before r k)) w)
branching t ps first other r w k b apart wf wo g =
    let f : ℕ → ℕ → Code = λ h n. Choose n (code_of h first) (code_of h other) (code_of h r) in
    let a : ℕ → Code = λ h. code_of h r in
    let target : ℕ → Code = before (if b then other else first) (before r k) in
    round t ps (before (If ps first other r) k) target w w apart
    (every_map ps (λ p. (if_part ps p.0 (f p.0) (a p.0) ≡ f p.0 p.1) × (nat_eq ((w p.0).registers p.1) 0 ≡ b)) (λ p. Quietly t (followed_by (if_part ps p.0 (f p.0) (a p.0)) (k p.0)) (w p.0) (target p.0) (w p.0))
    (λ p q. let P : Code → Code → Type 0 = λ c d. Quietly t c (w p.0) d (w p.0) in
    subst₂ P (ap (λ (c : Code). followed_by c (k p.0)) (sym q.0)) (chosen p.0 b) (branch_quietly t p.1 (code_of p.0 first) (code_of p.0 other) (before r k p.0) (w p.0) b q.1))
    (every_zip ps (λ p. if_part ps p.0 (f p.0) (a p.0) ≡ f p.0 p.1) (λ p. nat_eq ((w p.0).registers p.1) 0 ≡ b) (parts_at ps apart f a) (guards_each ps w b g)))
    (λ h n. ap (λ (c : Code). followed_by c (k h)) (absent_part ps h (f h) (a h) n) ∙ sym (ap (λ (c : Code). followed_by c (before r k h)) (absent ps h (if b then other else first) n (either b))))
    (λ h n. refl) (λ h. refl)
  where
    chosen : (h : ℕ) (b : Bool) → followed_by (if b then code_of h other else code_of h first) (before r k h) ≡ followed_by (code_of h (if b then other else first)) (before r k h)
    chosen h true = refl
    chosen h false = refl

    either : (b : Bool) → Within ps (if b then other else first)
    either true = wo
    either false = wf

sent_kept : (ps : List Part) (i : ℕ) (w : Hosts) (h : ℕ) → (turn_begun ps i w h).sent ≡ (w h).sent
sent_kept ps i w h = part_keeps (λ (s : Host). s.sent ≡ (w h).sent) ps h (λ c. record (w h) { registers = put (w h).registers c i }) (w h) (λ c. refl) refl

abbrev turn_of : Tape → List Part → Joint → ℕ → Hosts → Hosts
turn_of t ps body i v = joint t body (turn_begun ps i v)

abbrev order_of : Tape → List Part → Joint → ℕ → Hosts → List ℕ
order_of t ps body i v = hosts_of ps ++ program_order t body (turn_begun ps i v)

-- before turn i of a loop
abbrev at_turn : List Part → Joint → ℕ → (ℕ → Code) → ℕ → ℕ → Code
at_turn ps body count r i h = if_part ps h (λ c. Repeat c i count (code_of h body) (r h)) (r h)

leaving : (t : Tape) (ps : List Part) (body : Joint) (count : ℕ) (r : ℕ → Code) (w : Hosts) → Apart ps → Calmly t (hosts_of ps) (resting (at_turn ps body count r count) w) (resting r w)
leaving t ps body count r w apart =
    let f : ℕ → ℕ → Code = λ h c. Repeat c count count (code_of h body) (r h) in
    let past : nat_lt count count ≡ false = grind (arith, nat_tests) in
    round t ps (at_turn ps body count r count) r w w apart
    (every_map ps (λ p. if_part ps p.0 (f p.0) (r p.0) ≡ f p.0 p.1) (λ p. Quietly t (if_part ps p.0 (f p.0) (r p.0)) (w p.0) (r p.0) (w p.0))
    (λ p q. let P : Code → Type 0 = λ c. Quietly t c (w p.0) (r p.0) (w p.0) in subst P (sym q) (over_quietly t p.1 count count (code_of p.0 body) (r p.0) (w p.0) past))
    (parts_at ps apart f r))
    (λ h n. absent_part ps h (f h) (r h) n) (λ h n. refl) (λ h. refl)

looping : (t : Tape) (ps : List Part) (body : Joint) (count : ℕ) (r : ℕ → Code) → Apart ps → Within ps body
    → ((w : Hosts) (k : ℕ → Code) → IsSmooth t body w → Calmly t (program_order t body w) (resting (before body k) w) (resting k (joint t body w)))
    → (n i : ℕ) → i + n ≡ count → (w : Hosts) → AllTurns (λ i v. IsSmooth t body (turn_begun ps i v)) (turn_of t ps body) n i w
    → Calmly t (in_turns (order_of t ps body) (turn_of t ps body) n i w) (resting (at_turn ps body count r i) w) (resting (at_turn ps body count r count) (turns (turn_of t ps body) n i w))
looping t ps body count r apart within ih zero i e w smooth =
    let same : i ≡ count = omega arith in ap (λ k. resting (at_turn ps body count r k) w) same
looping t ps body count r apart within ih (suc n) i e w smooth =
    let f : ℕ → ℕ → Code = λ h c. Repeat c i count (code_of h body) (r h) in
    let f1 : ℕ → ℕ → Code = λ h c. Repeat c (suc i) count (code_of h body) (r h) in
    let k1 : ℕ → Code = at_turn ps body count r (suc i) in
    let w1 : Hosts = turn_begun ps i w in
    let g : ℕ → ℕ → Host = λ h c. record (w h) { registers = put (w h).registers c i } in
    let more : nat_lt i count ≡ true = let l : i < count = omega arith in grind (arith, nat_tests) in
    let begun : Calmly t (hosts_of ps) (resting (at_turn ps body count r i) w) (resting (before body k1) w1) =
    round t ps (at_turn ps body count r i) (before body k1) w w1 apart
    (every_map ps (λ p. (if_part ps p.0 (f p.0) (r p.0) ≡ f p.0 p.1) × ((if_part ps p.0 (f1 p.0) (r p.0) ≡ f1 p.0 p.1) × (if_part ps p.0 (g p.0) (w p.0) ≡ g p.0 p.1)))
    (λ p. Quietly t (if_part ps p.0 (f p.0) (r p.0)) (w p.0) (before body k1 p.0) (w1 p.0))
    (λ p q. let P : Code → Code → Host → Type 0 = λ c d s. Quietly t c (w p.0) d s in
    subst₃ P (sym q.0) (ap (followed_by (code_of p.0 body)) (sym q.1.0)) (sym q.1.1) (turn_quietly t p.1 i count (code_of p.0 body) (r p.0) (w p.0) more))
    (every_zip ps (λ p. if_part ps p.0 (f p.0) (r p.0) ≡ f p.0 p.1) (λ p. (if_part ps p.0 (f1 p.0) (r p.0) ≡ f1 p.0 p.1) × (if_part ps p.0 (g p.0) (w p.0) ≡ g p.0 p.1))
    (parts_at ps apart f r)
    (every_zip ps (λ p. if_part ps p.0 (f1 p.0) (r p.0) ≡ f1 p.0 p.1) (λ p. if_part ps p.0 (g p.0) (w p.0) ≡ g p.0 p.1) (parts_at ps apart f1 r) (parts_at ps apart g w))))
    (λ h m. absent_part ps h (f h) (r h) m ∙ sym (ap (λ (c : Code). followed_by c (k1 h)) (absent ps h body m within) ∙ absent_part ps h (f1 h) (r h) m))
    (λ h m. sym (absent_part ps h (g h) (w h) m))
    (sent_kept ps i w) in
    on t (order_of t ps body i w) (in_turns (order_of t ps body) (turn_of t ps body) n (suc i) (joint t body w1)) _ _ _
    (on t (hosts_of ps) (program_order t body w1) _ _ _ begun (ih w1 k1 smooth.0))
    (looping t ps body count r apart within ih n (suc i) (omega arith) (joint t body w1) smooth.1)

-- in program order the hosts end with what the joint run gives, and each turn is such a step
pub calmly_in_order : (t : Tape) (j : Joint) (w : Hosts) (k : ℕ → Code) → IsTidy j → IsSmooth t j w → Calmly t (program_order t j w) (resting (before j k) w) (resting k (joint t j w))
calmly_in_order t Done w k tidy smooth = refl
calmly_in_order t (Do a x r) w k tidy smooth =
    doing t a x (before (Do a x r) k) (before r k) w (program_order t r (after_do t a x w)) (resting k (joint t r (after_do t a x w)))
    (ap (λ (c : Code). followed_by c (k a)) (do_here a x r)) (λ h ne. ap (λ (c : Code). followed_by c (k h)) (do_there h a x r ne))
    smooth.0 (calmly_in_order t r (after_do t a x w) k tidy smooth.1)
calmly_in_order t (Msg a xs b ys r) w k tidy smooth =
    on t (a ∷ b ∷ []) (program_order t r (after_msg a xs b ys w)) (resting (before (Msg a xs b ys r) k) w) (resting (before r k) (after_msg a xs b ys w)) (resting k (joint t r (after_msg a xs b ys w)))
    (message t a b xs ys (before (Msg a xs b ys r) k) (before r k) w tidy.0 tidy.1.0
    (ap (λ (c : Code). followed_by c (k a)) (said_here a b xs ys r))
    (ap (λ (c : Code). followed_by c (k b)) (heard_here a b xs ys r (λ e. tidy.0 (sym e))))
    (λ h na nb. ap (λ (c : Code). followed_by c (k h)) (msg_there h a b xs ys r na nb)))
    (calmly_in_order t r (after_msg a xs b ys w) k tidy.1.1 smooth)
calmly_in_order t (If ps first other r) w k tidy smooth =
    chosen (is_other ps w) smooth.0 smooth.1.0 smooth.1.1 (λ s. calmly_in_order t first w (before r k) tidy.1.0 s) (λ s. calmly_in_order t other w (before r k) tidy.1.1.0 s)
    (λ v s. calmly_in_order t r v k tidy.1.1.1 s)
  where
    chosen : (b : Bool) → GuardsAre b ps w → (b ≡ true → IsSmooth t other w) × (b ≡ false → IsSmooth t first w) → IsSmooth t r (if b then joint t other w else joint t first w)
        → (IsSmooth t first w → Calmly t (program_order t first w) (resting (before first (before r k)) w) (resting (before r k) (joint t first w)))
        → (IsSmooth t other w → Calmly t (program_order t other w) (resting (before other (before r k)) w) (resting (before r k) (joint t other w)))
        → ((v : Hosts) → IsSmooth t r v → Calmly t (program_order t r v) (resting (before r k) v) (resting k (joint t r v)))
        → Calmly t (hosts_of ps ++ (if b then program_order t other w else program_order t first w) ++ program_order t r (if b then joint t other w else joint t first w))
        (resting (before (If ps first other r) k) w) (resting k (joint t r (if b then joint t other w else joint t first w)))
    chosen true g s sr i_first i_other i_rest =
        on t (hosts_of ps ++ program_order t other w) (program_order t r (joint t other w)) _ _ _
        (on t (hosts_of ps) (program_order t other w) _ _ _ (branching t ps first other r w k true tidy.0.0 tidy.0.1 tidy.0.2 g) (i_other (s.0 refl)))
        (i_rest (joint t other w) sr)
    chosen false g s sr i_first i_other i_rest =
        on t (hosts_of ps ++ program_order t first w) (program_order t r (joint t first w)) _ _ _
        (on t (hosts_of ps) (program_order t first w) _ _ _ (branching t ps first other r w k false tidy.0.0 tidy.0.1 tidy.0.2 g) (i_first (s.1 refl)))
        (i_rest (joint t first w) sr)
calmly_in_order t (For ps count body r) w k tidy smooth =
    let all : Hosts = turns (turn_of t ps body) count 0 w in
    let turned : List ℕ = in_turns (order_of t ps body) (turn_of t ps body) count 0 w in
    on t (turned ++ hosts_of ps) (program_order t r all) _ _ _
    (on t turned (hosts_of ps) _ _ _
    (same_start t turned _ _ _
    (same_resting (before (For ps count body r) k) (at_turn ps body count (before r k) 0) w w joined (λ h. refl))
    (looping t ps body count (before r k) tidy.0.0 tidy.0.1 (λ v l s. calmly_in_order t body v l tidy.1.0 s) count 0 (omega arith) w smooth.0))
    (leaving t ps body count (before r k) all tidy.0.0))
    (calmly_in_order t r all k tidy.1.1 smooth.1)
  where
    joined : (h : ℕ) → followed_by (if_part ps h (λ c. Repeat c 0 count (code_of h body) (code_of h r)) (code_of h r)) (k h) ≡ at_turn ps body count (before r k) 0 h
    joined h = map_part (λ (c : Code). followed_by c (k h)) ps h (λ c. Repeat c 0 count (code_of h body) (code_of h r)) (code_of h r)
