-- What a host prints are words.
use Rattle.std.proofs.Common.{◌≡◌, ℕ, ◌<◌, ◌^◌, List, [], ◌∷◌, ◌++◌, Option, Some, None, refl, sym, ap, ◌∙◌, subst, arith}
use Rattle.vd_execution.specs.declared.instructions.Action.{Action}
use Rattle.vd_execution.specs.declared.instructions.Action.TheVariants as action
use Rattle.vd_execution.specs.Code.{Code, Finished, Then, Send, Recv, Choose, Repeat}
use Rattle.vd_execution.specs.Registers.{Registers}
use Rattle.vd_execution.specs.Step.{Source, State, Deed, Quiet, Said, Heard, Printed as Shows, deed_of, deed_of_print, word_printed}
use Rattle.vd_execution.specs.World.{or_zeros}
use Rattle.vd_execution.proofs.Front.{AreItem}
use Rattle.vd_machine.specs.declared.lists.Lists.{Lists}
use Rattle.vd_machine.specs.declared.want.Want.{Want}
use Rattle.vd_machine.specs.declared.want.Want.TheVariants as want
use Rattle.vd_machine.specs.Dids.{seen}
use Rattle.vd_machine.specs.Machines.{or_empty}
use Rattle.vd_base.specs.Words.{AreWords}
use Rattle.vd_engine.specs.Events.{Event, Reached, AtStart, OneMore, received_in, shown, word_of, printed}
use Rattle.vd_engine.specs.Hosts.{wants_with, next_with, seen_at}
use Rattle.vd_distributed.specs.Linked.{NumbersAreWords}
use Rattle.vd_distributed.proofs.Fronts.{flat_both}
use Rattle.vd_distributed.proofs.Words.{AreItems, sound_from}

abbrev HoldWords : Registers → Type 0
HoldWords f = (r : ℕ) → f r < 2 ^ 32

words_both : (xs ys : List ℕ) → AreWords xs → AreWords ys → AreWords (xs ++ ys)
words_both [] ys p q = q
words_both (x ∷ xs) ys p q = (p.0, words_both xs ys p.1 q)

-- an item of a list is one of the deal that is followed by zeros, or nothing
pub item_words : (source : Source) (o : Option (List ℕ)) → AreItem (or_zeros source o) → AreItem (or_empty o)
item_words source None all = λ place. omega arith
item_words source (Some xs) all = all

-- ---- one step

abbrev PrintsWord : Deed → Type 0
PrintsWord (Shows x) = x < 2 ^ 32
PrintsWord other = Unit {0}

prints_register : (f : Registers) (a : Action) → HoldWords f → PrintsWord (seen (deed_of_print (word_printed f a)))
prints_register f (action.Print r) all = all r.0
prints_register f other all = tt

prints_word : (f : Registers) (c : Code) → HoldWords f → PrintsWord (seen (deed_of f c))
prints_word f Finished all = tt
prints_word f (Then a rest) all = prints_register f a all
prints_word f (Send p rs rest) all = tt
prints_word f (Recv p rs rest) all = tt
prints_word f (Choose g first other rest) all = tt
prints_word f (Repeat r turn count body rest) all = tt

shown_words : (d : Deed) → PrintsWord d → AreWords (printed (shown d))
shown_words Quiet w = tt
shown_words (Said peer words) w = tt
shown_words (Heard peer) w = tt
shown_words (Shows x) w = (w, tt)

nothing_printed : (w : Want) (heard : List ℕ) → printed (received_in w heard) ≡ []
nothing_printed want.Nothing heard = refl
nothing_printed (want.Words host count) heard = refl
nothing_printed want.Ended heard = refl
nothing_printed (want.ShortInput i n) heard = refl
nothing_printed (want.ShortDeal kind i n) heard = refl
nothing_printed (want.Unequal x y) heard = refl

-- ---- many steps

pub printed_words : (lists : Lists) → AreItems lists → (start : State) → HoldWords start.registers → NumbersAreWords start.pending → (steps : ℕ) (events : List Event) (m : State)
    → Reached (wants_with lists) (next_with lists) seen_at start steps events m → AreWords (printed events)
printed_words lists items start fits numbers _ _ _ AtStart = tt
printed_words lists items start fits numbers _ _ _ (OneMore steps events m heard r i) =
    let w = wants_with lists m in
    let d = seen_at m in
    let before = printed_words lists items start fits numbers steps events m r in
    let sound = sound_from lists items start fits numbers steps events m r in
    let here = shown_words d (prints_word m.registers m.pending sound.fits) in
    let added : printed (received_in w heard ++ shown d) ≡ printed (shown d) = flat_both word_of (received_in w heard) (shown d) ∙ ap (λ (l : List ℕ). l ++ printed (shown d)) (nothing_printed w heard) in
    subst AreWords (sym (flat_both word_of events (received_in w heard ++ shown d)))
    (words_both (printed events) (printed (received_in w heard ++ shown d)) before (subst AreWords (sym added) here))
