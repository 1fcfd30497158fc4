use Rattle.std.proofs.Common.{◌≡◌, ◌∙◌, ℕ, ◌/◌, ◌%◌, ap}
use Rattle.rehearsal.specs.Draws.{act_drawn, act_of, drawn, next}
use Rattle.rehearsal.specs.declared.acts.Act.{Act}
use Rattle.rehearsal.proofs.stage.Stage.draw.Goals as goal

-- the state is drawn from three times
drawn_act : (clients step first second third a v : ℕ) (act : Act) → second ≡ next first → third ≡ next second → a ≡ drawn (next second) → v ≡ drawn (next third) → act ≡ act_of clients (step / 4) (a % 16) v → act ≡ act_drawn clients step first
drawn_act clients step first second third a v act two three is_a is_v is =
    let a_is : a ≡ drawn (next (next first)) = is_a ∙ ap (λ x. drawn (next x)) two in
    let three_is : third ≡ next (next first) = three ∙ ap next two in
    let v_is : v ≡ drawn (next (next (next first))) = is_v ∙ ap (λ x. drawn (next x)) three_is in
    is ∙ (ap (λ x. act_of clients (step / 4) (x % 16) v) a_is ∙ ap (λ x. act_of clients (step / 4) (drawn (next (next first)) % 16) x) v_is)

pub returns-clause-act : goal.returns-clause-act
returns-clause-act c =
    drawn_act c.args.self.now.count c.args.step c.args.self.now.state c.draw.new.state c.draw-a.new.state c.draw-a.result c.draw-v.result c.act_for.result c.draw.ensures.state c.draw-a.ensures.state c.draw-a.ensures.drawn c.draw-v.ensures.drawn c.act_for.ensures.act
