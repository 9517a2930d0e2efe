use Rattle.std.proofs.Common.{◌≡◌, ap, arith}
use Rattle.ttp_model.specs.declared.parts.Cluster.{Cluster}
use Rattle.plan_sheets.specs.SlotRectangles.{band_text, bands_text}
use Rattle.plan_sheets.proofs.PictureGrowing.{range_grows}
use Rattle.plan_sheets.proofs.pictures.slots.put_bands.Goals as goal

pub loop-channel-preserved : goal.loop-channel-preserved
loop-channel-preserved c = range_grows _ _ _ (band_text c.args.canvas.now) c.loop-channel.channel c.loop-channel.invariant c.in_ok-put_band.ensures

pub returns : goal.returns
unfolding bands_text
returns c =
    let all : c.loop-channel.channel ≡ c.args.instance.now.cluster.channels = omega (arith, ap (λ (x : Cluster). x.channels) c.cluster.ensures.value) in
    rw all at c.loop-channel.invariant
