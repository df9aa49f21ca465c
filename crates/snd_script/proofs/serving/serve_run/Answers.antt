use Rattle.snd_script.proofs.serving.serve_run.Goals as goal

pub returns-in-Some-clause-bounds : goal.returns-in-Some-clause-bounds
returns-in-Some-clause-bounds g c = rw c.in-Some.is (λ b left. (c.serve_pinned.ensures.asked b left, c.serve_pinned.ensures.written b left))

pub returns-in-None-clause-bounds : goal.returns-in-None-clause-bounds
returns-in-None-clause-bounds g c = rw c.in-None.is c.serve_lines.ensures.bounds

pub returns-in-Some-clause-trail : goal.returns-in-Some-clause-trail
returns-in-Some-clause-trail g c = rw c.in-Some.is c.serve_pinned.ensures.trail

pub returns-in-None-clause-trail : goal.returns-in-None-clause-trail
returns-in-None-clause-trail g c = rw c.in-None.is tt
