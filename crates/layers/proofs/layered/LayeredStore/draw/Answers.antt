use Rattle.std.proofs.Common.{⊎_elim, arith}
use Rattle.store.proofs.Stages.{refused_top, drawn_more}
use Rattle.layers.proofs.layered.LayeredStore.draw.Goals as goal

pub returns-then-q-below-clause-drawn : goal.returns-then-q-below-clause-drawn
returns-then-q-below-clause-drawn g c s =
    let below = c.available-below.ensures.result s.0 in
    let available = rw below at (c.leaves-available.ensures.result s.1) in
    refused_top c.args.q _ _ _ (g.met.S.Store.means c.args.self.now.below s.0)
    (omega (arith, below, c.if-q-below.true)) (omega (arith, available, c.if-available-q.true))
    (c.height.ensures.result s) c.KIND.ensures (omega (arith, available))

pub returns-clause-drawn : goal.returns-clause-drawn
returns-clause-drawn g c s =
    let layer = c.args.self.now.layer in
    let below = c.available-below.ensures.result s.0 in
    let available = rw below at (c.leaves-available.ensures.result s.1) in
    drawn_more (g.L.Layer.leaves layer) g.L.Layer.KIND c.args.q _ _ c.draw.result
    (g.met.S.Store.means c.args.self.now.below s.0) (g.met.L.Layer.under layer _ s.1) (g.met.L.Layer.lowers layer _ c.args.q s.1)
    (λ le. ⊎_elim (λ low. absurd (omega (arith, below, low))) (λ high. omega (arith, available, high)) c.else-available-q.either)
    (c.draw.ensures.drawn s.0)
