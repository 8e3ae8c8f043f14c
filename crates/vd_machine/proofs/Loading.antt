-- A machine at the start of its code.
use Rattle.std.proofs.Common.{◌≡◌, ℕ, zero, suc, ◌<◌, get_or, ◌≤◌, List, [], ◌∷◌, length, replicate, sym, ap, ◌∙◌, subst, arith}
use Rattle.std.specs.Prelude.{All}
use Rattle.std.proofs.lemmas.List.{length-replicate}
use Rattle.vd_execution.specs.Code.{Code, Finished, Then, Send, Recv, Choose, Repeat, followed_by}
use Rattle.vd_execution.specs.Step.{State, Source}
use Rattle.vd_tape.specs.Validity.{IsDeal}
use Rattle.vd_execution.specs.declared.instructions.Instr.{Instr}
use Rattle.vd_execution.specs.Text.{IsCodeOf}
use Rattle.vd_machine.specs.declared.lists.Lists.{Lists}
use Rattle.vd_machine.specs.declared.lists.Taken.{Taken}
use Rattle.vd_machine.specs.declared.ops.Op.{Op}
use Rattle.vd_machine.specs.declared.frames.Frame.{Frame}
use Rattle.vd_machine.specs.declared.frames.Frame.TheVariants.{Run}
use Rattle.vd_machine.specs.Machines.{held, cursors_of, SamePeers}
use Rattle.vd_machine.specs.Kept.{code_of, span, IsFit, FrameFits, IsSettled, IsSound, frames_code, pending_of, PacketFits, at_start, FramesHaveRoom, HasRoom}
use Rattle.vd_machine.specs.Resolved.{ops_of}
use Rattle.vd_execution.specs.Ranges.{CodeFits, PacketsFit, depth}
use Rattle.vd_machine.proofs.Spans.{followed_by_none, span_whole}
use Rattle.vd_machine.proofs.Whole.{code_back, fit, zeros_held, none_taken}
use Rattle.vd_execution.proofs.Front.{code_unbegun}

all_none : {X : Type 0} (P : X → Type 0) (xs : List X) → xs ≡ [] → All P xs
all_none P [] e = λ k d h. absurd (omega (arith, h))
all_none P (x ∷ xs) e = absurd cc

settled_none : (to : ℕ) (below : List Frame) → below ≡ [] → IsSettled (Run 0 to) below
settled_none to [] e = tt
settled_none to (f ∷ fs) e = absurd cc

pub load_sound : (ops : List Op) (to : ℕ) (below : List Frame) (registers : List ℕ) (lists : Lists) (taken : Taken) (n : ℕ) (c : Code) → ops ≡ ops_of c [] → to ≡ length ops → below ≡ [] → registers ≡ replicate n 0
    → CodeFits n c → SamePeers lists taken → IsSound (record { code = ops; top = Run 0 to; below = below; registers = registers; lists = lists; taken = taken })
load_sound ops to below registers lists taken n c e t b r f peers =
    let many : length registers ≡ n = ap length r ∙ length-replicate n 0 in
    let whole : span ops 0 to ≡ ops_of c [] = span_whole ops to t ∙ e in
    record {
      top = (omega arith, omega (arith, t), subst (λ k. IsFit k (span ops 0 to)) (sym many) (subst (λ l. IsFit n l) (sym whole) (fit n c f)));
      below = all_none (λ x. FrameFits (length registers) ops x) below b;
      settled = settled_none to below b;
      peers = peers;
    }

pub load_pending : (code : List Instr) (ops : List Op) (to : ℕ) (below : List Frame) (c : Code) → IsCodeOf code c → ops ≡ ops_of c [] → to ≡ length ops → below ≡ [] → pending_of ops (Run 0 to) below ≡ c
load_pending code ops to below c is e t b =
    ap (λ fs. followed_by (code_of (span ops 0 to)) (frames_code ops fs Finished)) b ∙ followed_by_none (code_of (span ops 0 to)) ∙ ap code_of (span_whole ops to t ∙ e) ∙ code_back c (code_unbegun code c is)

pub load_room : (code : List Instr) (ops : List Op) (to : ℕ) (below : List Frame) (c : Code) (n : ℕ) → IsCodeOf code c → ops ≡ ops_of c [] → to ≡ length ops → below ≡ [] → depth c ≤ n → HasRoom n ops (Run 0 to) below
load_room code ops to below c n is e t b few =
    let same : code_of (span ops 0 to) ≡ c = ap code_of (span_whole ops to t ∙ e) ∙ code_back c (code_unbegun code c is) in
    let d = ap depth same in let l = ap length b in
    record {
      below_fit = subst (λ fs. FramesHaveRoom n ops 0 fs) (sym b) tt;
      top_fits = omega (arith, d, l, few);
    }

pub load_registers : (registers : List ℕ) (n : ℕ) → registers ≡ replicate n 0 → held registers ≡ (λ j. 0)
load_registers registers n e = ap held e ∙ zeros_held n

pub load_cursors : (a b d : List ℕ) (i j k : ℕ) → a ≡ replicate i 0 → b ≡ replicate j 0 → d ≡ replicate k 0
    → cursors_of (let t : Taken = record { inputs = 0; own = 0; triples = a; bits = b; pairs = d } in t) ≡ (λ s. 0)
load_cursors a b d i j k e f g =
    ap (λ x. cursors_of (let t : Taken = record { inputs = 0; own = 0; triples = x; bits = b; pairs = d } in t)) e
    ∙ ap (λ x. cursors_of (let t : Taken = record { inputs = 0; own = 0; triples = replicate i 0; bits = x; pairs = d } in t)) f
    ∙ ap (λ x. cursors_of (let t : Taken = record { inputs = 0; own = 0; triples = replicate i 0; bits = replicate j 0; pairs = x } in t)) g
    ∙ none_taken i j k

pub load_peers : (lists : Lists) (taken : Taken) (hosts : ℕ) → IsDeal lists.deal → hosts ≡ lists.deal.hosts
    → length taken.triples ≡ hosts → length taken.bits ≡ hosts → length taken.pairs ≡ hosts → SamePeers lists taken
load_peers lists taken hosts is n e f g = record {
  triples = e ∙ n ∙ sym is.triples;
  bits = f ∙ n ∙ sym is.bits;
  pairs = g ∙ n ∙ sym is.pairs;
}

-- what holds of each instruction of a code holds of each in its list
abbrev EachFits : ℕ → List Op → Type 0
EachFits hosts [] = Unit {0}
EachFits hosts (i ∷ is) = PacketFits hosts i × EachFits hosts is

each_op : (hosts : ℕ) (c : Code) (behind : List Op) → PacketsFit hosts c → EachFits hosts behind → EachFits hosts (ops_of c behind)
each_op hosts Finished behind f g = g
each_op hosts (Then a c) behind f g = (tt, each_op hosts c behind f g)
each_op hosts (Send p rs c) behind f g = (f.0, each_op hosts c behind f.1 g)
each_op hosts (Recv p rs c) behind f g = (f.0, each_op hosts c behind f.1 g)
each_op hosts (Choose x first other c) behind f g = (tt, each_op hosts first _ f.0 (each_op hosts other _ f.1.0 (each_op hosts c behind f.1.1 g)))
each_op hosts (Repeat r turn count body c) behind f g = (tt, each_op hosts body _ f.0 (each_op hosts c behind f.1 g))

all_of : (hosts : ℕ) (is : List Op) → EachFits hosts is → All (λ i. PacketFits hosts i) is
all_of hosts [] f = λ k d h. absurd (omega (arith, h))
all_of hosts (i ∷ is) f = first (all_of hosts is f.1)
  where
    first : All (λ i. PacketFits hosts i) is → (k : ℕ) (d : Op) → k < length (i ∷ is) → PacketFits hosts (get_or (i ∷ is) k d)
    first all zero d h = f.0
    first all (suc k) d h = all k d (omega (arith, h))

pub load_packets : (hosts : ℕ) (ops : List Op) (c : Code) → ops ≡ ops_of c [] → PacketsFit hosts c → All (λ i. PacketFits hosts i) ops
load_packets hosts ops c e f = subst (λ is. All (λ i. PacketFits hosts i) is) (sym e) (all_of hosts (ops_of c []) (each_op hosts c [] f tt))

pub at_start_is : (p c : Code) (f : ℕ → ℕ) (k : Source → ℕ) → p ≡ c → f ≡ (λ r. 0) → k ≡ (λ s. 0) → (let s : State = record { pending = p; registers = f; cursors = k } in s) ≡ at_start c
at_start_is p c f k e r q = λ i. record { pending = e i; registers = r i; cursors = q i }

-- the instruction that stands at a place
pub packet_at : (hosts : ℕ) (is : List Op) (at : ℕ) (i : Op) → All (λ j. PacketFits hosts j) is → at < length is → i ≡ get_or is at i → PacketFits hosts i
packet_at hosts is at i all h e = subst (PacketFits hosts) (sym e) (all at i h)

pub within : (registers : List ℕ) (code : List Op) (from to : ℕ) (top : Frame) → top ≡ Run from to → FrameFits (length registers) code top → (from ≡ to → ⊥) → from < length code
within registers code from to top is fits differ =
    let at : FrameFits (length registers) code (Run from to) = subst (FrameFits (length registers) code) is fits in
    let less = at.0 in let end = at.1 in omega (arith, less, end, differ)
