-- A node that is reached stays reached, whatever line is answered.
use Rattle.std.proofs.Common.{refl, ◌≡◌, ℕ, List, [], IfErr, Ok, Err, Result, sym, ap, subst}
use Rattle.store.specs.declared.store.Store.{Ghosts}
use Rattle.rates.specs.declared.amount.OutOfRange.{OutOfRange as Outside}
use Rattle.node.specs.declared.node.Node.{Node}
use Rattle.node.specs.Calls.{Event}
use Rattle.node.specs.Node.{Newborn, Called}
use Rattle.node.specs.Runs.{new}
use Rattle.node.proofs.Reaching.{called}
use Rattle.frame.specs.Frame.{frame_in}
use Rattle.frame.specs.declared.frame.Frame.{Frame}
use Rattle.frame.specs.declared.frame.Frame.TheVariants.{Capacitor as CapacitorFrame, Layered as LayeredFrame, Bank as BankFrame, Open, Close, Tap, Shut, Grant, Settle, Tick, Audit}
use Rattle.frame.specs.declared.fault.FrameFault.{FrameFault}
use Rattle.frame.specs.declared.answer.Answer.{Answer}
use Rattle.simulator.specs.declared.simulator.Simulator.{Simulator}
use Rattle.simulator.specs.declared.simulator.Simulator.TheVariants.{Empty, Single, Layered, Cells}
use Rattle.store.specs.Meaning.{Change, exactly}
use Rattle.store.specs.Capacitor.{new_capacitor, capacitor_after, capacitor_store}
use Rattle.store.specs.Bank.{new_bank, bank_after, bank_store}
use Rattle.simulator.specs.Simulator.{ReachedOn, Reached, Built, Builds, Stands, ServesOn, ServesIn, Serves, Replied, Replies, layered_store, layered_told, layered_of, Parks, SettledWith, Ends, SameIfRefused}

module _ {S : Type 0} (G : Ghosts S) (A : Change → S → S → Type 0) where
  pub on : (n m : Node S) (e : Event) → Called G A n e m → ReachedOn G n → ReachedOn G m
  on n m e x at = called x.step at

  stays : (n m : Node S) → m ≡ n → ReachedOn G n → ReachedOn G m
  stays n m same at = subst (ReachedOn G) (sym same) at

  parks : (k m : Node S) (x : Result _ _) (r : Result Answer FrameFault) → Parks G A x k r m → ReachedOn G k → ReachedOn G m
  parks k m (Ok slip) r p at = on k m _ p.0 at
  parks k m (Err d) r p at = stays k m p.0 at

  ends : (j m : Node S) (slip : _) (y : Result _ _) (r : Result Answer FrameFault) → Ends G A slip y j r m → ReachedOn G j → ReachedOn G m
  ends j m slip (Ok lost) r p at = stays j m p.0 at
  ends j m slip (Err e) r p at = on j m _ p.0 at

  settles : (k m : Node S) (serial : ℕ) (x : Result _ _) (used : ℕ) (r : Result Answer FrameFault) → SettledWith G A serial x used k r m → ReachedOn G k → ReachedOn G m
  settles k m serial (Ok slip) used r p at = ends p.2 m slip p.1 r p.4 (on k p.2 _ p.3 at)
  settles k m serial (Err d) used r p at = stays k m p.0 at

  pub serving : (n m : Node S) (f : Frame) (r : Result Answer FrameFault) → ServesOn G A n f r m → ReachedOn G n → ReachedOn G m
  serving n m (CapacitorFrame c) r p at = stays n m p.1 at
  serving n m (LayeredFrame c f q) r p at = stays n m p.1 at
  serving n m (BankFrame cs) r p at = stays n m p.1 at
  serving n m (Open t i) r p at = on n m _ p.1 at
  serving n m (Close t i) r p at = on n m _ p.1 at
  serving n m (Tap t k) r p at = on n m _ p.1 at
  serving n m (Shut t k) r p at = on n m _ p.1 at
  serving n m (Grant t i q) r p at = parks p.1 m p.0 r p.3 (on n p.1 _ p.2 at)
  serving n m (Settle t s u) r p at = settles p.1 m s p.0 u r p.3 (on n p.1 _ p.2 at)
  serving n m (Tick h) r p at = on n m _ p.3 at
  serving n m Audit r p at = stays n m p.4 at

  module _ (put : Node S → Simulator) (is : (n : Node S) → ReachedOn G n → Reached (put n)) where
    serving_in : (n : Node S) (f : Frame) (r : Result Answer FrameFault) (s' : Simulator) → ServesIn G A put n f r s' → ReachedOn G n → Reached s'
    serving_in n f r s' p at = subst Reached (sym p.1) (is p.0 (serving n p.0 f r p.2 at))

    building : (x : Result S Outside) (made : Result Simulator FrameFault) (r : Result Answer FrameFault) (s' : Simulator) → Builds G put x made → Stands made r s' → Reached s'
    building (Ok x) made r s' (n, made-is, ok, born) stands =
        let at = subst (λ z. Stands z r s') made-is stands in
        subst Reached (sym at.1) (is n (x, [], new ok born))
    building (Err e) made r s' is stands = subst Reached (sym (subst (λ z. Stands z r s') is stands).1) tt

nothing : (made : Result Simulator FrameFault) (f : FrameFault) (r : Result Answer FrameFault) (s' : Simulator) → made ≡ Err f → Stands made r s' → Reached s'
nothing made f r s' is stands = subst Reached (sym (subst (λ z. Stands z r s') is stands).1) tt

first : (f : Frame) (made : Result Simulator FrameFault) (r : Result Answer FrameFault) (s' : Simulator) → Built f made → Stands made r s' → Reached s'
first (CapacitorFrame c) made r s' b stands = building capacitor_store (exactly capacitor_after) Single (λ n x. x) (new_capacitor c) made r s' b stands
first (LayeredFrame c f p) made r s' b stands = building layered_store layered_told Layered (λ n x. x) (layered_of c f p) made r s' b stands
first (BankFrame cs) made r s' b stands = building bank_store (exactly bank_after) Cells (λ n x. x) (new_bank cs) made r s' b stands
first (Open t i) made r s' b stands = nothing made _ r s' b stands
first (Close t i) made r s' b stands = nothing made _ r s' b stands
first (Tap t k) made r s' b stands = nothing made _ r s' b stands
first (Shut t k) made r s' b stands = nothing made _ r s' b stands
first (Grant t i q) made r s' b stands = nothing made _ r s' b stands
first (Settle t s u) made r s' b stands = nothing made _ r s' b stands
first (Tick h) made r s' b stands = nothing made _ r s' b stands
first Audit made r s' b stands = nothing made _ r s' b stands

-- whatever the frame is
pub served : (s : Simulator) (f : Frame) (r : Result Answer FrameFault) (s' : Simulator) → Serves s f r s' → Reached s → Reached s'
served Empty f r s' p at = first f p.0 r s' p.1 p.2
served (Single n) f r s' p at = serving_in capacitor_store (exactly capacitor_after) Single (λ n x. x) n f r s' p at
served (Layered n) f r s' p at = serving_in layered_store layered_told Layered (λ n x. x) n f r s' p at
served (Cells n) f r s' p at = serving_in bank_store (exactly bank_after) Cells (λ n x. x) n f r s' p at

replied : (s : Simulator) (f : Result Frame FrameFault) (r : Result Answer FrameFault) (s' : Simulator) → Replied s f r s' → Reached s → Reached s'
replied s (Ok f) r s' p at = served s f r s' p at
replied s (Err f) r s' p at = subst Reached (sym p.1) at

-- whatever the line is
pub stays_reached : (s : Simulator) (line : List ℕ) (r : Result Answer FrameFault) (s' : Simulator) → Replies s line r s' → Reached s → Reached s'
stays_reached s line r s' p at = replied s (frame_in line) r s' p at

-- a node over a store that can be built
pub builds : {S : Type 0} (G : Ghosts S) (put : Node S → Simulator) (made : Result S Outside) (x : S) (n : Node S) → made ≡ Ok x → G.sound x → Newborn G x n → Builds G put made (Ok (put n))
builds G put made x n e ok born = subst (λ m. Builds G put m (Ok (put n))) (sym e) (n, refl, ok, born)

-- a refusal that leaves the node leaves what stands
pub same_node : {S : Type 0} (put : Node S → Simulator) (n m : Node S) (r : Result Answer FrameFault) → IfErr r (λ _. m ≡ n) → SameIfRefused r (put n) (put m)
same_node put n m (Ok a) same = tt
same_node put n m (Err f) same = ap put same
