use Rattle.std.proofs.Common.{◌∙◌, ◌≤◌, ◌-◌, arith, length}
use Rattle.snd_disk.proofs.Public.{goes_on_then}
use Rattle.snd_disk.specs.Device.{IsStable}
use Rattle.snd_patch.specs.Steps.{Becomes, KeepsSize}
use Rattle.snd_promote.proofs.Contents.{converted_contents, on_ok}
use Rattle.snd_promote.proofs.Faults.{early_start, front_beside, size_beside}
use Rattle.snd_ds64.proofs.Public.{length-new_front, length-new_size}
use Rattle.snd_promote.proofs.Moments.{front_leaves, size_leaves}
use Rattle.snd_ds64.specs.Promoted.{new_size, promoted}
use Rattle.snd_promote.specs.Steps.{HasPut}
use Rattle.snd_promote.proofs.promotion.convert.Goals as goal

pub put_size-requires-clause-counts : goal.put_size-requires-clause-counts
put_size-requires-clause-counts g c = record { room = c.requires.counts.room; on_disk = c.requires.counts.on_disk; there = omega (arith, c.requires.counts.there, c.in_ok-put_front.ensures.put.size) }

-- the first call failed
pub returns-in_err-put_front-clause-leaves : goal.returns-in_err-put_front-clause-leaves
returns-in_err-put_front-clause-leaves g c = λ b told stable.
    let early = early_start c.args.layout.now c.keeps_rule.ensures c.requires.reserved in
    let there : c.args.layout.now.start ≤ length b = omega (arith, g.met.D.Disk.size_told c.args.disk.now b told, c.requires.counts.there) in
    front_leaves g.D.Disk c.args.layout.now c.args.layout.now.frames c.args.disk.now c.put_front.new.disk b early there told stable c.put_front.ensures.puts

pub returns-in_err-put_front-clause-beside : goal.returns-in_err-put_front-clause-beside
returns-in_err-put_front-clause-beside g c =
    let early = early_start c.args.layout.now c.keeps_rule.ensures c.requires.reserved in
    front_beside g.D.Disk.state c.args.layout.now c.args.layout.now.frames early c.args.disk.now c.put_front.new.disk
    (λ b told. omega (arith, g.met.D.Disk.size_told c.args.disk.now b told, c.requires.counts.there)) c.put_front.ensures.puts.mixed

pub returns-in_err-put_front-clause-written : goal.returns-in_err-put_front-clause-written
returns-in_err-put_front-clause-written g c = record {
  later = c.put_front.ensures.puts.written.later;
  most = omega (arith, c.put_front.ensures.puts.written.most, length-new_front c.args.layout.now c.args.layout.now.frames);
}

-- it did not
pub returns-clause-leaves : goal.returns-clause-leaves
returns-clause-leaves g c = λ b told stable.
    let early = early_start c.args.layout.now c.keeps_rule.ensures c.requires.reserved in
    let there : c.args.layout.now.start ≤ length b = omega (arith, g.met.D.Disk.size_told c.args.disk.now b told, c.requires.counts.there) in
    size_leaves g.D.Disk c.args.layout.now c.args.layout.now.frames c.args.disk.now c.put_front.new.disk b early there told stable c.put_front.ensures.puts c.put_size.new.disk c.in_ok-put_front.ensures.put c.put_size.ensures.puts

pub returns-clause-beside : goal.returns-clause-beside
returns-clause-beside g c =
    let early = early_start c.args.layout.now c.keeps_rule.ensures c.requires.reserved in
    size_beside g.D.Disk.state c.args.layout.now c.args.layout.now.frames early c.args.disk.now c.put_front.new.disk c.put_size.new.disk
    (λ b told. omega (arith, g.met.D.Disk.size_told c.args.disk.now b told, c.requires.counts.there)) c.in_ok-put_front.ensures.put.contents c.put_size.ensures.puts.mixed

pub returns-clause-contents : goal.returns-clause-contents
returns-clause-contents g c =
    on_ok c.put_size.result (HasPut g.D.Disk (c.args.layout.now.start - 4) new_size c.put_front.new.disk c.put_size.new.disk)
    (Becomes g.D.Disk.state (λ b. promoted b c.args.layout.now c.args.layout.now.frames) c.args.disk.now c.put_size.new.disk)
    (λ put. converted_contents c.args.layout.now c.args.layout.now.frames (g.D.Disk.state c.args.disk.now).contents (g.D.Disk.state c.put_front.new.disk).contents (g.D.Disk.state c.put_size.new.disk).contents
    c.in_ok-put_front.ensures.put.contents put.contents) c.put_size.ensures.put

pub returns-clause-size : goal.returns-clause-size
returns-clause-size g c =
    on_ok c.put_size.result (HasPut g.D.Disk (c.args.layout.now.start - 4) new_size c.put_front.new.disk c.put_size.new.disk) (KeepsSize g.D.Disk.state c.args.disk.now c.put_size.new.disk)
    (λ put. put.size ∙ c.in_ok-put_front.ensures.put.size) c.put_size.ensures.put

pub returns-clause-stable : goal.returns-clause-stable
returns-clause-stable g c =
    on_ok c.put_size.result (HasPut g.D.Disk (c.args.layout.now.start - 4) new_size c.put_front.new.disk c.put_size.new.disk) (IsStable g.D.Disk.state g.D.Disk.may_leave c.put_size.new.disk) (λ put. put.stable) c.put_size.ensures.put

pub returns-clause-tells : goal.returns-clause-tells
returns-clause-tells g c = record { told = c.put_size.ensures.puts.tells.told ∙ c.put_front.ensures.puts.tells.told; name = c.put_size.ensures.puts.tells.name ∙ c.put_front.ensures.puts.tells.name }

pub returns-clause-time : goal.returns-clause-time
returns-clause-time g c =
    goes_on_then (g.D.Disk.state c.args.disk.now).clock (g.D.Disk.state c.put_front.new.disk).clock (g.D.Disk.state c.put_size.new.disk).clock (g.D.Disk.left_between c.args.disk.now) (g.D.Disk.left_between c.put_front.new.disk)
    (g.D.Disk.left_between c.put_size.new.disk) c.put_front.ensures.puts.time c.put_size.ensures.puts.time

pub returns-clause-written : goal.returns-clause-written
returns-clause-written g c = record {
  later = omega (arith, c.put_front.ensures.puts.written.later, c.put_size.ensures.puts.written.later);
  most = omega (arith, c.put_front.ensures.puts.written.most, c.put_size.ensures.puts.written.most, length-new_front c.args.layout.now c.args.layout.now.frames, length-new_size);
}

pub returns-clause-asked : goal.returns-clause-asked
returns-clause-asked g c = c.put_size.ensures.puts.asked ∙ c.put_front.ensures.puts.asked
