use Rattle.std.proofs.Common.{◌≡◌, ap, arith}
use Rattle.ttp_model.specs.declared.parts.Cluster.{Cluster}
use Rattle.plan_sheets.specs.Rows.{channel_text, channels_text}
use Rattle.plan_sheets.proofs.PictureGrowing.{range_grows}
use Rattle.plan_sheets.proofs.pictures.rows.put_channels.Goals as goal

pub loop-channel-preserved : goal.loop-channel-preserved
loop-channel-preserved c = range_grows _ _ _ (channel_text c.args.canvas.now) c.loop-channel.channel c.loop-channel.invariant c.in_ok-put_channel.ensures

pub returns : goal.returns
unfolding channels_text
returns c =
    let all : c.loop-channel.channel ≡ c.args.instance.now.cluster.channels = omega (arith, ap (λ (x : Cluster). x.channels) c.cluster.ensures.value) in
    rw all at c.loop-channel.invariant
